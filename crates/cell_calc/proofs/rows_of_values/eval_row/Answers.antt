use Rattle.std.proofs.Common.{[], ap, ◌∙◌}
use Rattle.std.proofs.lemmas.List.Elements.{All-same}
use Rattle.cell_calc_language.specs.Applied.{grid_position}
use Rattle.cell_calc.specs.parts.Operands.{CanEvaluateStep, step_result_from_windows}
use Rattle.cell_calc_grammar.specs.Postfix.{postfix, operands_after_steps}
use Rattle.cell_calc_grammar.proofs.PostfixLemmas.{enough_steps}
use Rattle.cell_calc.proofs.Values.{ready_steps, header_value_from_call_result, only_value}
use Rattle.cell_calc.proofs.rows_of_values.eval_row.Goals as goal

pub write_expression_values_of_row-requires-clause-ready : goal.write_expression_values_of_row-requires-clause-ready
write_expression_values_of_row-requires-clause-ready c =
    All-same (CanEvaluateStep c.args.windows.now) c.steps.result.now (postfix c.args.bound.now) c.steps.ensures.steps
    (ready_steps c.args.bound.now c.args.row c.args.windows.now c.steps.ensures.proper c.requires.windows)

pub write_expression_values_of_row-requires-clause-enough : goal.write_expression_values_of_row-requires-clause-enough
write_expression_values_of_row-requires-clause-enough c = rw c.steps.ensures.steps (enough_steps c.args.bound.now)

pub returns-clause-ok : goal.returns-clause-ok
returns-clause-ok c maps over k h =
    let f = c.args.bound.now in
    let s = grid_position c.args.region.now c.args.row k in
    only_value _ _ (c.in_ok-write_expression_values_of_row.ensures.each k h
    ∙ ap (λ l. operands_after_steps (step_result_from_windows c.args.windows.now s) l []) c.steps.ensures.steps
    ∙ header_value_from_call_result f c.args.windows.now maps s c.requires.windows over)
