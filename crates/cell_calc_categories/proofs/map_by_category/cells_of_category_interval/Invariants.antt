use Rattle.std.proofs.Common.{◌≡◌, ◌<◌, ◌≤◌, ◌+◌, ℕ, length}
use Rattle.cell_calc.specs.RowValues.{at}
use Rattle.cell_calc_categories.specs.parts.CategorySpans.{IsTablePlaceOfCell, IsCellInCategoryInterval}
use Rattle.cell_calc_categories.proofs.map_by_category.cells_of_category_interval.Given as goal

abbrev pub invariant-loop-i : goal.invariant-loop-i
invariant-loop-i l = record {
  count : length l.cells.items ≡ l.i;
  most : l.i ≤ l.width;
  place : (k : ℕ) → k < l.i → IsTablePlaceOfCell l.span (l.from + k) (at l.cells.items k);
  within : (k : ℕ) → k < l.i → IsCellInCategoryInterval l.span (at l.cells.items k);
}
