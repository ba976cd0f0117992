use Rattle.std.proofs.Common.{arith, ◌<◌, ◌^◌, length, map, ap, ◌∙◌}
use Rattle.cell_calc_language.specs.Binding.{formula_of_term, place_of_map_name}
use Rattle.cell_calc_grammar.specs.Postfix.{step_with_leaf_replaced, tree_of_steps}
use Rattle.cell_calc_language.proofs.Placing.{proper-placed, bound_by}
use Rattle.cell_calc_grammar.proofs.PostfixLemmas.{tree-postfix, postfix-over}
use Rattle.cell_calc_language.proofs.binding.resolve.Goals as goal

pub invariant_of-result : goal.invariant_of-result
invariant_of-result c =
    let names = c.args.names.now in
    let few : length names < 2 ^ 64 = omega (arith, c.len-count.ensures.count, c.len-count.type_inv) in
    bound_by c.in-Ok.steps.items (formula_of_term names c.args.expr.now)
    (c.in-Ok.ensures ∙ ap (λ l. map (step_with_leaf_replaced (place_of_map_name names)) l) c.steps.ensures.steps ∙ postfix-over (place_of_map_name names) c.args.expr.now)
    (proper-placed names few c.args.expr.now c.steps.ensures.grammatical)

pub returns-in-Ok-clause-ok : goal.returns-in-Ok-clause-ok
returns-in-Ok-clause-ok c =
    let names = c.args.names.now in
    let steps = c.in-Ok.ensures ∙ ap (λ l. map (step_with_leaf_replaced (place_of_map_name names)) l) c.steps.ensures.steps ∙ postfix-over (place_of_map_name names) c.args.expr.now in
    ap (λ l. tree_of_steps l) steps ∙ tree-postfix (formula_of_term names c.args.expr.now)
