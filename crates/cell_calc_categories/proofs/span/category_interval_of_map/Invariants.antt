use Rattle.std.proofs.Common.{ℕ, ◌<◌}
use Rattle.std.specs.Prelude.{All}
use Rattle.cell_core.specs.Grid.{row_at}
use Rattle.cell_calc_categories.specs.parts.CategorySpans.{IsValidCategoryInterval, IsCellInCategoryInterval}
use Rattle.cell_calc_categories.proofs.span.category_interval_of_map.Given as goal

abbrev pub invariant-loop-row : goal.invariant-loop-row
invariant-loop-row l = record {
  span : IsValidCategoryInterval l.span;
  within : (r : ℕ) → r < l.row → All (IsCellInCategoryInterval l.span) (row_at l.given r);
}
