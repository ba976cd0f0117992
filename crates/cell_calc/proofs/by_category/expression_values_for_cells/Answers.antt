use Rattle.std.proofs.Common.{ap, ◌∙◌, [], ◌∷◌, arith}
use Rattle.std.proofs.lemmas.List.Elements.{All-same}
use Rattle.cell_calc.specs.RowValues.{at}
use Rattle.cell_calc_language.specs.Applied.{grid_position}
use Rattle.cell_calc_grammar.specs.Postfix.{postfix, operands_after_steps}
use Rattle.cell_calc_grammar.proofs.PostfixLemmas.{enough_steps}
use Rattle.cell_calc.specs.ByCategory.{step_result_for_first_map_cell, formula_value_for_first_map_cell}
use Rattle.cell_calc.specs.parts.Operands.{CanEvaluateStep, step_result_from_windows}
use Rattle.cell_calc.proofs.CategoryValues.{ready_window, seen_value, map_of_each}
use Rattle.cell_calc.proofs.by_category.expression_values_for_cells.Goals as goal

pub values_along_first_columns-requires-clause-ready : goal.values_along_first_columns-requires-clause-ready
values_along_first_columns-requires-clause-ready c =
    let f = c.args.bound.now in
    let w = c.in_ok-window.window in
    rw (c.as_slice.ensures.value, c.in_ok-windows.ensures.items)
    (All-same (CanEvaluateStep (w ∷ [])) c.steps.result.now (postfix f) c.steps.ensures.steps
    (ready_window f w c.steps.ensures.proper c.requires.by_category))

pub values_along_first_columns-requires-clause-enough : goal.values_along_first_columns-requires-clause-enough
values_along_first_columns-requires-clause-enough c = rw c.steps.ensures.steps (enough_steps c.args.bound.now)

pub returns : goal.returns
returns c =
    let f = c.args.bound.now in
    let cells = c.args.cells.items in
    let values = c.in_ok-values.values.items in
    let w = c.in_ok-window.window in
    let region = c.args.region in
    map_of_each (formula_value_for_first_map_cell region f) values cells
    (omega (arith, c.in_ok-values.ensures.width, c.len-width.ensures, c.args.cells.ok.0))
    (λ k lt. ap (λ l. at l 0) (c.in_ok-values.ensures.each k (omega
    (arith, lt, c.len-width.ensures, c.args.cells.ok.0))
    ∙ ap (λ l. operands_after_steps (step_result_from_windows l (grid_position region 0 k)) c.steps.result.now [])
    (c.as_slice.ensures.value ∙ c.in_ok-windows.ensures.items)
    ∙ ap (λ l. operands_after_steps (step_result_from_windows (w
    ∷ []) (grid_position region 0 k)) l []) c.steps.ensures.steps
    ∙ seen_value region w 0 k (postfix f) c.requires.by_category
    ∙ ap (λ l. operands_after_steps (step_result_for_first_map_cell region (at l k))
    (postfix f) []) c.in_ok-window.ensures))
