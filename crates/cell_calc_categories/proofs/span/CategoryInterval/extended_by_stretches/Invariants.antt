use Rattle.std.specs.Prelude.{All}
use Rattle.cell_core.specs.Runs.{cells_of_runs}
use Rattle.cell_calc_categories.specs.declared.span.CategoryInterval.{CategoryInterval}
use Rattle.cell_calc_categories.specs.parts.CategorySpans.{IsValidCategoryInterval, IsCellInCategoryInterval}
use Rattle.cell_calc_categories.specs.parts.CategorySpans.{IsIntervalInsideInterval}
use Rattle.cell_calc_categories.proofs.span.CategoryInterval.extended_by_stretches.Given as goal

abbrev pub invariant-loop-cell : goal.invariant-loop-cell
invariant-loop-cell l = record {
  span : IsValidCategoryInterval l.span;
  within : (t : CategoryInterval) → IsIntervalInsideInterval l.span t
      → All (IsCellInCategoryInterval t) (cells_of_runs l.cell-iterator)
      → All (IsCellInCategoryInterval t) (cells_of_runs l.fn.stretches);
  wider : IsIntervalInsideInterval l.fn.self l.span;
}
