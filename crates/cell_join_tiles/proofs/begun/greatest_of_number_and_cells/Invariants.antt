use Rattle.std.proofs.Common.{◌≡◌, ◌≤◌, drop}
use Rattle.cell_join_tiles.specs.parts.Greatest.{greatest_of_number_and_cells}
use Rattle.cell_join_tiles.proofs.begun.greatest_of_number_and_cells.Given as goal

abbrev pub invariant-loop-cell : goal.invariant-loop-cell
invariant-loop-cell l = record {
  greatest : greatest_of_number_and_cells l.greatest (drop l.cell-index l.cells)
      ≡ greatest_of_number_and_cells l.most l.cells;
  small : l.most ≤ 2147483647 → l.greatest ≤ 2147483647;
}
