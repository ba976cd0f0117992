use Rattle.std.proofs.Common.{◌≡◌, map, take}
use Rattle.cell_clumps.proofs.kept_labels.copy_clump_labels_of_row.Given as goal

abbrev pub invariant-loop-i : goal.invariant-loop-i
invariant-loop-i l = take l.i l.labels ≡ map (λ x. x.label) (take l.i l.line)
