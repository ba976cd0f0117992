use Rattle.std.proofs.Common.{take}
use Rattle.std.specs.Prelude.{All}
use Rattle.cell_calc_categories.specs.parts.CategorySpans.{IsValidCategoryInterval, IsCellInCategoryInterval}
use Rattle.cell_calc_categories.specs.parts.CategorySpans.{IsIntervalInsideInterval}
use Rattle.cell_calc_categories.proofs.span.CategoryInterval.extended_by_cells.Given as goal

abbrev pub invariant-loop-cell : goal.invariant-loop-cell
invariant-loop-cell l = record {
  span : IsValidCategoryInterval l.span;
  within : All (IsCellInCategoryInterval l.span) (take l.cell-index l.cells);
  wider : IsIntervalInsideInterval l.fn.self l.span;
}
