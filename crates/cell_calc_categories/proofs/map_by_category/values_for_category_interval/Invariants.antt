use Rattle.std.proofs.Common.{◌≡◌, ◌<◌, ◌≤◌, ◌-◌, ℕ, length}
use Rattle.cell_core.specs.Grid.{CellValue}
use Rattle.cell_calc.specs.RowValues.{at}
use Rattle.cell_calc_categories.specs.parts.CategorySpans.{IsTablePlaceOfCell, IsCellInCategoryInterval}
use Rattle.cell_calc.specs.ByCategory.{formula_value_for_first_map_cell}
use Rattle.cell_calc_categories.proofs.map_by_category.values_for_category_interval.Given as goal

abbrev pub invariant-parts : goal.invariant-parts
invariant-parts l = record {
  within : l.from ≤ l.size;
  count : length l.table.items ≡ l.from;
  each : (x : CellValue) (p : ℕ) → p < l.from → IsCellInCategoryInterval l.span x → IsTablePlaceOfCell l.span p x
      → at l.table.items p ≡ formula_value_for_first_map_cell l.region l.bound x;
}

abbrev pub decreases-parts : goal.decreases-parts
decreases-parts l = l.size - l.from
