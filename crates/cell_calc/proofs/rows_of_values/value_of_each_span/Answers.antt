use Rattle.std.proofs.Common.{[], ap, ◌∙◌}
use Rattle.cell_calc_grammar.specs.Postfix.{operands_after_steps}
use Rattle.cell_calc_language.specs.Applied.{grid_position}
use Rattle.cell_calc.specs.parts.Operands.{step_result_from_windows}
use Rattle.cell_calc.proofs.StretchSteps.{ready_all, stretch_value}
use Rattle.cell_calc.proofs.rows_of_values.value_of_each_span.Goals as goal

pub values_along_first_columns-requires-clause-ready : goal.values_along_first_columns-requires-clause-ready
values_along_first_columns-requires-clause-ready c =
    let short = c.in_ok-short.short.items in
    rw c.as_slice.ensures.value (ready_all c.args.windows.now short c.args.widths.now c.args.steps.now
    c.in_ok-short.ensures c.requires.in_place c.requires.ready)

pub returns-clause-each : goal.returns-clause-each
returns-clause-each c = λ k col lt like.
    let region = c.args.region in
    let steps = c.args.steps.now in
    c.in_ok-values.ensures.each k lt
    ∙ ap (λ l. operands_after_steps (step_result_from_windows l (grid_position region c.args.row k)) steps [])
    c.as_slice.ensures.value
    ∙ stretch_value c.args.windows.now c.in_ok-short.short.items c.args.widths.now region.rows region.cols
    c.args.row k col steps c.in_ok-short.ensures like c.requires.in_place c.requires.ready
