use Rattle.std.proofs.Common.{◌≡◌, ℕ, ◌≤◌}
use Rattle.cell_clumps.specs.parts.Labels.{LabelsPointToSmallerOrSelf}
use Rattle.cell_join_numbers.specs.UnionFind.{AreRootsOfLabels}
use Rattle.cell_join_numbers.proofs.union_find.root_of_node.Given as goal

abbrev pub invariant-loop-table : goal.invariant-loop-table
invariant-loop-table l = record {
  down : LabelsPointToSmallerOrSelf l.table;
  low : l.at ≤ l.node;
  leads : (open_of : ℕ → ℕ) → AreRootsOfLabels l.fn.table open_of → AreRootsOfLabels l.table open_of;
  same : (open_of : ℕ → ℕ) → AreRootsOfLabels l.fn.table open_of → open_of l.at ≡ open_of l.node;
}

abbrev pub decreases-loop-table : goal.decreases-loop-table
decreases-loop-table l = l.at
