use Rattle.std.proofs.Common.{◌≡◌, ◌<◌, ◌≤◌, ℕ}
use Rattle.cell_core.specs.Grid.{CellValue}
use Rattle.cell_calc.specs.RowValues.{at}
use Rattle.cell_calc_categories.specs.parts.ValueTables.{IsTableOfFunctionValues}
use Rattle.cell_calc_categories.proofs.map_by_category.replace_cells_by_table_values.Given as goal

abbrev pub invariant-loop-i : goal.invariant-loop-i
invariant-loop-i l = record {
  done : (f : CellValue → CellValue) → IsTableOfFunctionValues f l.span l.table → (c : ℕ) → c < l.i
      → at l.cells c ≡ f (at l.initial.cells c);
  rest : (c : ℕ) → l.i ≤ c → at l.cells c ≡ at l.initial.cells c;
}
