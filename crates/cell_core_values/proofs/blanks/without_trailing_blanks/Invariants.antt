use Rattle.std.proofs.Common.{◌≡◌, ◌≤◌, length, take}
use Rattle.cell_core_values.specs.Blanks.{without_trailing_blanks}
use Rattle.cell_core_values.proofs.blanks.without_trailing_blanks.Given as goal

abbrev pub invariant-loop-end : goal.invariant-loop-end
invariant-loop-end l = (without_trailing_blanks (take l.end l.text) ≡ without_trailing_blanks l.text)
    × (l.end ≤ length l.text)

abbrev pub decreases-loop-end : goal.decreases-loop-end
decreases-loop-end l = l.end
