use Rattle.std.proofs.Common.{◌+◌, ◌∷◌, [], length, length-append, ap, ◌∙◌, arith}
use Rattle.cell_calc_categories.specs.parts.CategorySpans.{IsTablePlaceOfCell, IsCellInCategoryInterval}
use Rattle.cell_calc_categories.proofs.Categories.{one_pushed}
use Rattle.cell_calc_categories.proofs.map_by_category.cells_of_category_interval.Goals as goal

pub loop-i-preserved : goal.loop-i-preserved
loop-i-preserved c =
    let old = c.loop-i.cells.items in
    let x = c.cell.result in
    let s = c.args.span in
    let held = c.loop-i.invariant in
    let is = c.in_ok-push.ensures.items in
    record {
      count = ap (λ l. length l) is ∙ length-append old (x ∷ []) ∙ ap (λ n. n + 1) held.count;
      most = omega (arith, c.loop-i-test.true);
      place = rw is (one_pushed (λ k v. IsTablePlaceOfCell s
          (c.args.from + k) v) old x c.loop-i.i held.count held.place c.cell.ensures.at);
      within = rw is (one_pushed (λ k v. IsCellInCategoryInterval s v) old x c.loop-i.i held.count held.within
          c.cell.ensures.within);
    }
