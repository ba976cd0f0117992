use Rattle.std.proofs.Common.{◌≡◌, ◌≤ℤ◌, ◌∙◌, ap, arith, rules, is_some, true, to_z, of_z, w64, SFits, to_z-of_z}
use Rattle.std.proofs.lemmas.Int.{ints}
use Rattle.std.specs.BTreeMap.{get}
use Rattle.std.specs.Ordering.{int_cmp}
use Rattle.cell_cats.proofs.PieceLemmas.{le_from_not_gt, apart}
use Rattle.cell_cats.proofs.pieces.RuleOutputIntervals.clear.Goals as goal

pub loop-start-smaller : goal.loop-start-smaller
loop-start-smaller c =
    let here = rw c.in-Some.ensures.steps at (c.range.ensures.in_range c.new.ensures.exhausted).1 in
    let fits : SFits w64 c.in-Some.start.now = search rules in
    let found = ap (get int_cmp c.loop-start.self.starts) (to_z-of_z fits) ∙ here.1 in
    let some : is_some c.remove.result ≡ true = ap is_some (c.remove.ensures.value ∙ found) in
    let len = rw some at c.remove.ensures.len in omega (arith, len)

pub loop-start-preserved : goal.loop-start-preserved
loop-start-preserved c =
    let here = rw c.in-Some.ensures.steps at (c.range.ensures.in_range c.new.ensures.exhausted).1 in
    let from : to_z w64 (of_z w64 c.args.from) ≤ℤ c.in-Some.start.now = omega (arith, ints, le_from_not_gt c.new.result.start c.in-Some.start.now here.0.0, c.new.ensures.start) in
    let to : c.in-Some.start.now ≤ℤ to_z w64 (of_z w64 c.args.to) = omega (arith, ints, le_from_not_gt c.in-Some.start.now c.new.result.end here.0.1, c.new.ensures.end) in
    let key = to_z w64 (of_z w64 c.in-Some.start.now) in
    record {
      before = λ q h. c.remove.ensures.updates.2 q (apart key q (λ e. omega (arith, ints))) ∙ c.loop-start.invariant.before q h;
      after = λ q h. c.remove.ensures.updates.2 q (apart key q (λ e. omega (arith, ints))) ∙ c.loop-start.invariant.after q h;
    }
