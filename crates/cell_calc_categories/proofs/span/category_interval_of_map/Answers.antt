use Rattle.std.proofs.Common.{below_more}
use Rattle.std.specs.Prelude.{All}
use Rattle.cell_core.specs.Grid.{row_at}
use Rattle.cell_calc_categories.specs.parts.CategorySpans.{IsCellInCategoryInterval}
use Rattle.cell_calc_categories.proofs.span.category_interval_of_map.Goals as goal

pub loop-row-preserved : goal.loop-row-preserved
loop-row-preserved c =
    let more = c.with_row-span.ensures in
    record {
      span = more.span;
      within = below_more (λ r. All (IsCellInCategoryInterval c.with_row-span.result)
          (row_at c.args.given.now r)) c.loop-row.row
          (λ r lt k d h. more.wider _ (c.loop-row.invariant.within r lt k d h)) more.within;
    }
