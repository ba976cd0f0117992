use Rattle.std.proofs.Common.{None, ap, ◌∙◌}
use Rattle.cell_calc_language.specs.Unknown.{unknown_map_column, first_or_second_column}
use Rattle.cell_calc_grammar.specs.Postfix.{fold_maps_of_steps}
use Rattle.cell_calc_language.proofs.PostfixLemmas.{unplaced_is_unknown}
use Rattle.cell_calc_language.proofs.expr.Expr.first_unknown.Goals as goal

pub returns : goal.returns
returns c =
    c.first_unknown_name_column.ensures ∙ ap (fold_maps_of_steps
    (unknown_map_column c.args.names.now) None first_or_second_column) c.steps.ensures.steps
    ∙ unplaced_is_unknown c.args.names.now c.args.self.now
