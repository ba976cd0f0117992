use Rattle.std.proofs.Common.{◌≡◌, length, take}
use Rattle.std.specs.Prelude.{IfSome}
use Rattle.cell_core.specs.Grid.{CellValue}
use Rattle.cell_calc_categories.specs.parts.ValueTables.{IsTableOfFunctionValues, AreValueBytesOfByteCells}
use Rattle.cell_calc_categories.specs.parts.ValueTables.{rows_with_function_applied}
use Rattle.cell_calc_categories.proofs.map_by_category.map_of_table_values.Given as goal

abbrev pub invariant-loop-row : goal.invariant-loop-row
invariant-loop-row l = record {
  region : l.builder.region ≡ l.given.region;
  count : length l.builder.rows ≡ l.row;
  bytes : length l.bytes ≡ l.given.region.cols;
  cells : length l.cells ≡ l.given.region.cols;
  rows : (f : CellValue → CellValue) → IsTableOfFunctionValues f l.span l.table
      → IfSome l.small (λ b. AreValueBytesOfByteCells f b.items)
      → l.builder.rows ≡ rows_with_function_applied f (take l.row l.given.rows);
}
