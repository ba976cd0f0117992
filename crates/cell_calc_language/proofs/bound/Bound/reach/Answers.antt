use Rattle.std.proofs.Common.{max, ap, ◌∙◌}
use Rattle.std.proofs.lemmas.List.Elements.{All-same}
use Rattle.cell_calc_grammar.specs.Postfix.{postfix, tree_of_steps, fold_maps_of_steps}
use Rattle.cell_calc_language.specs.Reach.{rows_read_above_at_offset, rows_read_below_at_offset}
use Rattle.cell_calc_language.specs.parts.TreeSteps.{StepIsWithinLimits}
use Rattle.cell_calc_language.proofs.FormulaSteps.{up-postfix, down-postfix, proper_steps}
use Rattle.cell_calc_language.proofs.bound.Bound.reach.Goals as goal

pub up-requires : goal.up-requires
up-requires c =
    let f = tree_of_steps c.self.inside.steps.items in
    All-same StepIsWithinLimits c.as_slice-steps.result.now (postfix f) (c.as_slice-steps.ensures.value ∙ c.self.invariant.postfix) (proper_steps f c.self.invariant.proper)

pub down-requires : goal.down-requires
down-requires c =
    let f = tree_of_steps c.self.inside.steps.items in
    All-same StepIsWithinLimits c.as_slice-steps.result.now (postfix f) (c.as_slice-steps.ensures.value ∙ c.self.invariant.postfix) (proper_steps f c.self.invariant.proper)

pub returns-clause-up : goal.returns-clause-up
returns-clause-up c =
    let f = tree_of_steps c.self.inside.steps.items in
    rw (← c.self.view_is) (c.up.ensures.value ∙ ap (λ l. fold_maps_of_steps (rows_read_above_at_offset c.args.i) 0 max l) (c.as_slice-steps.ensures.value ∙ c.self.invariant.postfix) ∙ up-postfix c.args.i f)

pub returns-clause-down : goal.returns-clause-down
returns-clause-down c =
    let f = tree_of_steps c.self.inside.steps.items in
    rw (← c.self.view_is) (c.down.ensures.value ∙ ap (λ l. fold_maps_of_steps (rows_read_below_at_offset c.args.i) 0 max l) (c.as_slice-steps.ensures.value ∙ c.self.invariant.postfix) ∙ down-postfix c.args.i f)
