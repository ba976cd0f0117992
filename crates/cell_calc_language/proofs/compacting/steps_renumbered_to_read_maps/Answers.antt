use Rattle.std.proofs.Common.{◌≡◌, arith, ℕ, ◌<◌, ◌≤◌, List, [], ◌∷◌, length, map, max, refl, ap, ◌∙◌}
use Rattle.std.proofs.lemmas.List.{take_all}
use Rattle.std.proofs.lemmas.Result.{IfOk-from_err}
use borrow.Author.Count.{falls}
use Rattle.cell_calc_language.specs.Compact.{FormulaReadsMapsAtPlaces, AreDistinctPlaces}
use Rattle.cell_calc_language.specs.Formula.{Formula}
use Rattle.cell_calc_language.specs.parts.TreeSteps.{position_among_places}
use Rattle.cell_calc_language.specs.Reach.{map_place_limit_at_offset}
use Rattle.cell_calc_grammar.specs.Postfix.{step_with_leaf_replaced, value_of_step_map_or_default}
use Rattle.cell_calc_grammar.proofs.PostfixLemmas.{fold-append}
use Rattle.cell_calc_language.proofs.Moved.{moved_more, listed_more}
use Rattle.cell_calc_language.proofs.FormulaSteps.{greatest}
use Rattle.cell_calc_language.proofs.compacting.steps_renumbered_to_read_maps.Goals as goal

none_below : {k : ℕ} → k < 0 → ⊥
none_below below = omega arith

at_least : (a b : ℕ) {most : ℕ} → most ≡ max a b → a ≤ most
at_least a b is = omega arith

none_equal : {places : List ℕ} → places ≡ [] → AreDistinctPlaces places
none_equal none = rw none (λ i j d before below same. none_below below)

none_read : {places : List ℕ} (f : Formula) → places ≡ [] → FormulaReadsMapsAtPlaces places f
none_read f none = rw none (λ k i is. cc)

pub returns-in_err-others : goal.returns-in_err-others
returns-in_err-others c = IfOk-from_err c.from_residual.result _ c.from_residual.ensures.0

pub loop-step-init : goal.loop-step-init
loop-step-init c =
    let none = c.new-places.ensures.items in
    record {
      steps = c.in_ok-others.ensures.items;
      listed = λ k d below. absurd (none_below below);
      count = rw (none, c.in_ok-others.ensures.items) refl;
      distinct = none_equal none;
      read = λ f all. none_read f none;
    }

pub returns-in_err-other : goal.returns-in_err-other
returns-in_err-other c = IfOk-from_err c.from_residual-in_err-other.result _ c.from_residual-in_err-other.ensures.0

pub returns-in_err-push : goal.returns-in_err-push
returns-in_err-push c = IfOk-from_err c.from_residual-in_err-push.result _ c.from_residual-in_err-push.ensures.0

pub loop-step-preserved : goal.loop-step-preserved
loop-step-preserved c =
    let so_far = c.loop-step.invariant in
    let moved = c.in_ok-other.ensures in
    let others = c.in_ok-push.ensures.items in
    let last = fold-append map_place_limit_at_offset 0 max greatest c.loop-step.others.items (c.in_ok-other.other
    ∷ []) in
    let longer : length c.loop-step.places.items ≤ length c.step_with_renumbered_map.new.places.items =
    at_least (length c.loop-step.places.items) (value_of_step_map_or_default map_place_limit_at_offset 0
    c.in_ok-other.other)
    moved.count in
    record {
      steps = others ∙ moved_more c.loop-step.places.items c.step_with_renumbered_map.new.places.items c.args.steps.now
          c.loop-step.step-index _ c.loop-step.others.items c.in_ok-other.other c.loop-step-test.true
          c.step_with_renumbered_map.ensures.places.kept so_far.listed so_far.steps moved.step;
      listed = listed_more c.loop-step.places.items c.step_with_renumbered_map.new.places.items c.args.steps.now
          c.loop-step.step-index _
          c.loop-step-test.true c.step_with_renumbered_map.ensures.places.kept longer so_far.listed moved.listed;
      count = rw (others, last) (omega (arith, moved.count, so_far.count));
      distinct = c.step_with_renumbered_map.ensures.places.distinct so_far.distinct;
      read = λ f all. c.step_with_renumbered_map.ensures.read f (all c.loop-step.step-index _ c.loop-step-test.true)
          (so_far.read f all);
    }

pub loop-step-smaller : goal.loop-step-smaller
loop-step-smaller c = falls (length c.args.steps.now) c.loop-step.step-index c.loop-step-test.true

pub returns : goal.returns
returns c = record {
  steps =
      let all = take_all c.loop-step.step-index c.args.steps.now c.loop-step-test.false in
      c.loop-step.invariant.steps ∙ ap (λ l. map (step_with_leaf_replaced
      (position_among_places c.loop-step.places.items)) l)
      all;
  listed = rw (take_all c.loop-step.step-index c.args.steps.now c.loop-step-test.false) at c.loop-step.invariant.listed;
  count = c.loop-step.invariant.count;
  distinct = c.loop-step.invariant.distinct;
  read = c.loop-step.invariant.read;
}
