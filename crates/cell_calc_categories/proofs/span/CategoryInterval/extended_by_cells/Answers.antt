use Rattle.std.proofs.Common.{length, subst, take_all, sym, arith}
use Rattle.std.proofs.lemmas.List.Elements.{All-more, All-same}
use Rattle.cell_calc_categories.specs.parts.CategorySpans.{IsCellInCategoryInterval}
use Rattle.cell_calc_categories.proofs.span.CategoryInterval.extended_by_cells.Goals as goal

pub loop-cell-preserved : goal.loop-cell-preserved
loop-cell-preserved c =
    let before = c.loop-cell.invariant in
    let more = c.with-span.ensures in
    let s = c.with-span.result in
    record {
      span = more.span;
      within = All-more (IsCellInCategoryInterval s) c.args.cells.now c.loop-cell.cell-index c.cell-item.result
          c.loop-cell-test.true
          (λ k d lt. more.wider _ (before.within k d lt)) (subst
          (IsCellInCategoryInterval s) c.cell-item.is more.within);
      wider = λ x h. more.wider x (before.wider x h);
    }

pub returns-clause-within : goal.returns-clause-within
returns-clause-within c =
    All-same (IsCellInCategoryInterval c.loop-cell.span) c.args.cells.now _ (sym
    (take_all c.loop-cell.cell-index c.args.cells.now c.loop-cell-test.false)) c.loop-cell.invariant.within
