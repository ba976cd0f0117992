use Rattle.std.proofs.Common.{◌≡◌, ℕ, length, map, take}
use Rattle.cell_clumps.specs.parts.Labels.{LabelsPointToSmallerOrSelf}
use Rattle.cell_join_numbers.specs.SparseLabels.{places_of_label_pair}
use Rattle.cell_join_numbers.specs.UnionFind.{AreRootsOfLabels, roots_after_all_joins}
use Rattle.cell_join_numbers.proofs.sparse.unite_nodes_of_pairs.Given as goal

abbrev pub invariant-loop-pair : goal.invariant-loop-pair
invariant-loop-pair l = record {
  down : LabelsPointToSmallerOrSelf l.table;
  long : length l.table ≡ length l.fn.table;
  leads : (root_of : ℕ → ℕ) → AreRootsOfLabels l.fn.table root_of → AreRootsOfLabels l.table (roots_after_all_joins root_of (map (places_of_label_pair l.paired) (take l.pair-index l.pairs)));
}
