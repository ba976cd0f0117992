use Rattle.std.proofs.Common.{[], ap, sym, replicate}
use Rattle.std.proofs.lemmas.List.Elements.{All-append, All-replicate, All-same, All-nil}
use Rattle.cell_core.specs.Runs.{cells_of_runs}
use Rattle.cell_calc_categories.specs.parts.CategorySpans.{IsCellInCategoryInterval}
use Rattle.cell_calc_categories.proofs.span.CategoryInterval.extended_by_stretches.Goals as goal

pub loop-cell-init : goal.loop-cell-init
loop-cell-init c = record {
  span = c.requires;
  within = λ t wide all. All-same (IsCellInCategoryInterval t) (cells_of_runs c.args.stretches)
      (cells_of_runs c.into_iter-cell-iterator.result)
      (sym (ap cells_of_runs c.into_iter-cell-iterator.ensures.into_iter_gives)) all;
  wider = λ x h. h;
}

pub loop-cell-preserved : goal.loop-cell-preserved
loop-cell-preserved c =
    let before = c.loop-cell.invariant in
    let more = c.with-span.ensures in
    let x = c.in-Some.cell in
    let n = c.in-Some._count in
    record {
      span = more.span;
      within = λ t wide all. before.within t (λ y h. wide y (more.wider y h))
          (All-same (IsCellInCategoryInterval t) (cells_of_runs c.loop-cell.cell-iterator) _
          (ap cells_of_runs c.in-Some.ensures.steps)
          (All-append (IsCellInCategoryInterval t) (replicate n x) (cells_of_runs c.next.new.self)
          (All-replicate (IsCellInCategoryInterval t) n x
          (wide x more.within)) all));
      wider = λ y h. more.wider y (before.wider y h);
    }

pub returns-clause-within : goal.returns-clause-within
returns-clause-within c =
    let s = c.loop-cell.span in
    c.loop-cell.invariant.within s (λ x h. h)
    (All-same (IsCellInCategoryInterval s) (cells_of_runs c.loop-cell.cell-iterator) []
    (ap cells_of_runs c.in-None.ensures.steps.0)
    (All-nil (IsCellInCategoryInterval s)))
