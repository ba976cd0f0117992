use Rattle.std.proofs.Common.{◌≡◌, ◌≤◌, length}
use Rattle.cell_core_values.specs.Blanks.{without_leading_blanks}
use Rattle.cell_core_values.proofs.blanks.without_leading_blanks.Given as goal

abbrev pub invariant-loop-rest : goal.invariant-loop-rest
invariant-loop-rest l = record {
  same : without_leading_blanks l.rest ≡ without_leading_blanks l.text;
  shorter : length l.rest ≤ length l.text;
}

abbrev pub decreases-loop-rest : goal.decreases-loop-rest
decreases-loop-rest l = length l.rest
