use Rattle.std.proofs.Common.{◌≡◌, ◌∷◌, [], length, ap, ◌∙◌, arith, length-append}
use Rattle.cell_calc_language.specs.Reach.{rows_read_above_by_formula, rows_read_below_by_formula}
use Rattle.cell_calc_tests.proofs.Reaches.{reach_more}
use Rattle.cell_calc_tests.proofs.evaluation.open.Goals as goal

pub loop-i-preserved : goal.loop-i-preserved
loop-i-preserved c =
    let w = c.in_ok-moved.field-0 in
    let i = c.loop-i.i in
    let bound = c.args.bound.now in
    let up : w.above ≡ rows_read_above_by_formula i bound = c.in_ok-moved.ensures.1.0 ∙ c.reach-up.ensures.up in
    let down : w.below ≡ rows_read_below_by_formula i bound = c.in_ok-moved.ensures.1.1 ∙ c.reach-up.ensures.down in
    record {
      count = let e = ap (λ l. length l) c.in_ok-push.ensures.items in omega (arith, e, length-append c.loop-i.windows.items (w ∷ []), c.loop-i.invariant.count);
      reach = rw c.in_ok-push.ensures.items (reach_more bound c.args.row c.loop-i.windows.items i w c.loop-i.invariant.count c.loop-i.invariant.reach
          (c.in_ok-moved.ensures.0, (omega (arith, up), omega (arith, down))));
    }
