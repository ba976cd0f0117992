use Rattle.std.proofs.Common.{◌≡◌, take}
use Rattle.cell_join_numbers.specs.SparseNumbers.{labels_of_pairs}
use Rattle.cell_join_numbers.proofs.sparse.labels_of_pairs.Given as goal

abbrev pub invariant-loop-pair : goal.invariant-loop-pair
invariant-loop-pair l = l.labels.items ≡ labels_of_pairs (take l.pair-index l.pairs)
