use Rattle.std.proofs.Common.{max, ap, ◌∙◌}
use Rattle.std.proofs.lemmas.List.Elements.{All-same}
use Rattle.cell_calc_grammar.specs.Postfix.{postfix, tree_of_steps, fold_maps_of_steps}
use Rattle.cell_calc_language.specs.Reach.{map_place_limit_at_offset}
use Rattle.cell_calc_language.specs.parts.TreeSteps.{StepIsWithinLimits}
use Rattle.cell_calc_language.proofs.FormulaSteps.{top-postfix, proper_steps}
use Rattle.cell_calc_language.proofs.bound.Bound.top.Goals as goal

pub top-requires : goal.top-requires
top-requires c =
    let f = tree_of_steps c.self.inside.steps.items in
    All-same StepIsWithinLimits c.as_slice.result.now (postfix f) (c.as_slice.ensures.value
    ∙ c.self.invariant.postfix) (proper_steps f c.self.invariant.proper)

pub returns : goal.returns
returns c =
    let f = tree_of_steps c.self.inside.steps.items in
    rw (← c.self.view_is) (c.top.ensures ∙ ap (λ l. fold_maps_of_steps map_place_limit_at_offset 0 max l)
    (c.as_slice.ensures.value ∙ c.self.invariant.postfix) ∙ top-postfix f)
