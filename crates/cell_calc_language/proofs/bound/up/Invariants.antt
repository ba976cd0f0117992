use Rattle.std.proofs.Common.{◌≡◌, ◌≤◌, take, max}
use Rattle.cell_calc_language.specs.Reach.{rows_read_above_at_offset}
use Rattle.cell_calc_grammar.specs.Postfix.{fold_maps_of_steps}
use Rattle.cell_calc_language.proofs.bound.up.Given as goal

abbrev pub invariant-loop-step : goal.invariant-loop-step
invariant-loop-step l = record { value : l.up ≡ fold_maps_of_steps (rows_read_above_at_offset l.i) 0 max (take l.step-index l.steps); bound : l.up ≤ 255 }
