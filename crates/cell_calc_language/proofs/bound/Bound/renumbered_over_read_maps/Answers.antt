use Rattle.std.proofs.Common.{rules, arith, ◌<◌, ◌+◌, ◌^◌, length, map, max, ap, ◌∙◌, sym}
use Rattle.std.proofs.lemmas.List.Elements.{All-same}
use Rattle.cell_calc_language.specs.Compact.{ReadsMap}
use Rattle.cell_calc_language.specs.Reach.{map_place_limit_at_offset, map_place_limit_of_formula}
use Rattle.cell_calc_language.specs.Value.{value}
use Rattle.cell_calc_grammar.specs.Postfix.{postfix, tree_of_steps, step_with_leaf_replaced, fold_maps_of_steps}
use Rattle.cell_calc_language.specs.parts.TreeSteps.{position_among_places, StepReadsListedPlace}
use Rattle.cell_calc_language.proofs.Compact.{read_below}
use Rattle.cell_calc_language.proofs.Index.{index_within}
use Rattle.cell_calc_grammar.specs.Tree.{with_leaves}
use Rattle.cell_calc_language.proofs.Moved.{value-moved}
use Rattle.cell_calc_language.proofs.Placing.{proper-over, bound_by}
use Rattle.cell_calc_grammar.proofs.PostfixLemmas.{tree-postfix, postfix-over}
use Rattle.cell_calc_language.proofs.FormulaSteps.{AreReads, reads_steps, top-postfix}
use Rattle.cell_calc_language.proofs.bound.Bound.renumbered_over_read_maps.Goals as goal

pub invariant_of-result : goal.invariant_of-result
invariant_of-result c =
    let f = tree_of_steps c.self.inside.steps.items in
    let places = c.in_ok-steps.places.items in
    let old = c.as_slice.ensures.value ∙ c.self.invariant.postfix in
    let is = c.in_ok-steps.ensures.steps ∙ ap (λ l. map (step_with_leaf_replaced (position_among_places places)) l) old ∙ postfix-over (position_among_places places) f in
    let few : length places + 1 < 2 ^ 64 = search rules in
    bound_by c.in_ok-steps.steps.items (with_leaves (position_among_places places) f) is
    (proper-over (position_among_places places) (length places + 1) few (λ i. omega (arith, index_within places i)) f c.self.invariant.proper.0)

pub returns-clause-value : goal.returns-clause-value
returns-clause-value c =
    let f = tree_of_steps c.self.inside.steps.items in
    let places = c.in_ok-steps.places.items in
    let old = c.as_slice.ensures.value ∙ c.self.invariant.postfix in
    let is = c.in_ok-steps.ensures.steps ∙ ap (λ l. map (step_with_leaf_replaced (position_among_places places)) l) old ∙ postfix-over (position_among_places places) f in
    let new = ap (λ l. tree_of_steps l) is ∙ tree-postfix (with_leaves (position_among_places places) f) in
    let listed = All-same (StepReadsListedPlace places) (postfix f) c.as_slice.result.now
    (sym old) c.in_ok-steps.ensures.listed in
    rw (← c.self.view_is) (λ maps picked are s. ap (λ g. value g picked s) new ∙ value-moved places maps picked are s f listed)

pub returns-clause-top : goal.returns-clause-top
returns-clause-top c =
    let f = tree_of_steps c.self.inside.steps.items in
    let places = c.in_ok-steps.places.items in
    let old = c.as_slice.ensures.value ∙ c.self.invariant.postfix in
    let is = c.in_ok-steps.ensures.steps ∙ ap (λ l. map (step_with_leaf_replaced (position_among_places places)) l) old ∙ postfix-over (position_among_places places) f in
    ap (λ l. map_place_limit_of_formula (tree_of_steps l)) is
    ∙ ap (λ g. map_place_limit_of_formula g) (tree-postfix (with_leaves (position_among_places places) f))
    ∙ sym (top-postfix (with_leaves (position_among_places places) f)) ∙ ap (λ l. fold_maps_of_steps map_place_limit_at_offset 0 max l) (sym is) ∙ sym c.in_ok-steps.ensures.count

pub returns-clause-read : goal.returns-clause-read
returns-clause-read c =
    let f = tree_of_steps c.self.inside.steps.items in
    let old = c.as_slice.ensures.value ∙ c.self.invariant.postfix in
    rw (← c.self.view_is) (c.in_ok-steps.ensures.read f
    (All-same (AreReads (λ i. ReadsMap i f)) c.as_slice.result.now (postfix f) old (reads_steps (λ i. ReadsMap i f) f (λ i h. h))))

pub returns-clause-within : goal.returns-clause-within
returns-clause-within c =
    let f = tree_of_steps c.self.inside.steps.items in
    let old = c.as_slice.ensures.value ∙ c.self.invariant.postfix in
    rw (← c.self.view_is) (read_below f c.in_ok-steps.places.items (c.in_ok-steps.ensures.read f
    (All-same (AreReads (λ i. ReadsMap i f)) c.as_slice.result.now (postfix f) old (reads_steps (λ i. ReadsMap i f) f (λ i h. h)))))
