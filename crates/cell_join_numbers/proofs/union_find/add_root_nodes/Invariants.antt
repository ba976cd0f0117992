use Rattle.std.proofs.Common.{◌≡◌, ℕ, ◌+◌, length}
use Rattle.cell_clumps.specs.parts.Labels.{LabelsPointToSmallerOrSelf}
use Rattle.cell_join_numbers.specs.UnionFind.{AreRootsOfLabels}
use Rattle.cell_join_numbers.proofs.union_find.add_root_nodes.Given as goal

abbrev pub invariant-loop-added : goal.invariant-loop-added
invariant-loop-added l = record {
  down : LabelsPointToSmallerOrSelf l.table.items;
  long : length l.table.items ≡ length l.fn.table.items + l._added;
  leads : (open_of : ℕ → ℕ) → AreRootsOfLabels l.fn.table.items open_of → AreRootsOfLabels l.table.items open_of;
}
