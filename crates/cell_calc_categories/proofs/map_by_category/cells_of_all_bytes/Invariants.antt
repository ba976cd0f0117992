use Rattle.std.proofs.Common.{◌≡◌, ◌<◌, ℕ, length}
use Rattle.cell_core_values.specs.SmallCells.{cell_of_stored_byte}
use Rattle.cell_calc.specs.RowValues.{at}
use Rattle.cell_calc_categories.proofs.map_by_category.cells_of_all_bytes.Given as goal

abbrev pub invariant-loop-byte : goal.invariant-loop-byte
invariant-loop-byte l = record {
  count : length l.cells.items ≡ l.byte;
  within : l.byte < 257;
  each : (b : ℕ) → b < l.byte → at l.cells.items b ≡ cell_of_stored_byte b;
}
