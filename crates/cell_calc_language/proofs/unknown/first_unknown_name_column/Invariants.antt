use Rattle.std.proofs.Common.{◌≡◌, drop, None}
use Rattle.cell_calc_language.specs.Unknown.{unknown_map_column, first_or_second_column}
use Rattle.cell_calc_grammar.specs.Postfix.{fold_maps_of_steps}
use Rattle.cell_calc_language.proofs.unknown.first_unknown_name_column.Given as goal

abbrev pub invariant-loop-step : goal.invariant-loop-step
invariant-loop-step l =
    fold_maps_of_steps (unknown_map_column l.names) None first_or_second_column (drop l.step-index l.steps)
    ≡ fold_maps_of_steps (unknown_map_column l.names) None first_or_second_column l.steps
