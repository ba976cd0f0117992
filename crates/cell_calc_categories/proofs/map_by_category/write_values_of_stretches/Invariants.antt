use Rattle.std.proofs.Common.{◌≡◌, ◌<◌, ◌+◌, ◌++◌, length, take, map}
use Rattle.std.specs.Prelude.{All}
use Rattle.cell_core.specs.Grid.{CellValue}
use Rattle.cell_core.specs.Runs.{cells_of_runs}
use Rattle.cell_calc_categories.specs.parts.CategorySpans.{IsCellInCategoryInterval}
use Rattle.cell_calc_categories.specs.parts.ValueTables.{IsTableOfFunctionValues}
use Rattle.cell_calc_categories.proofs.map_by_category.write_values_of_stretches.Given as goal

abbrev pub invariant-loop-cell : goal.invariant-loop-cell
invariant-loop-cell l = record {
  whole : (f : CellValue → CellValue) → IsTableOfFunctionValues f l.span l.table
      → take l.at l.cells ++ map f (cells_of_runs l.cell-iterator) ≡ map f (cells_of_runs l.fn.stretches);
  within : l.at + length (cells_of_runs l.cell-iterator) ≡ length l.cells;
  cells : All (IsCellInCategoryInterval l.span) (cells_of_runs l.cell-iterator);
  some : All (λ run. 0 < run.1) l.cell-iterator;
}
