use Rattle.std.proofs.Common.{◌≡◌, Result, Ok, Err, refl}
use Rattle.std.specs.Result.{OnOk}
use Rattle.cell_ascii_meaning.specs.Writing.{grid_text}
use Rattle.rcell.specs.Output.{command_output_text, stats_text}
use Rattle.rcell.proofs.runs.ExecutionLemmas.{grid_command, stats_command}
use Rattle.rcell.proofs.execution.execute_command.Goals as goal

whenever_ok : {T E : Type 0} (r : Result T E) (P : Type 0) → P → OnOk r P
whenever_ok (Ok x) P p = p
whenever_ok (Err y) P p = tt

pub returns-in-Stats-clause-after : goal.returns-in-Stats-clause-after
returns-in-Stats-clause-after g c = whenever_ok c.write_stats.result _ (rw c.in-Stats.is refl)

pub returns-in-Stats-clause-ok : goal.returns-in-Stats-clause-ok
returns-in-Stats-clause-ok g c =
    let same : stats_text c.args.shelf.now c.as_slice.result.now c.in-Stats.options ≡ command_output_text c.args.shelf.now c.args.command.now =
    rw c.as_slice.ensures (stats_command c.args.shelf.now c.args.command.now _ _ c.in-Stats.is) in
    rw (← same) c.write_stats.ensures.ok

pub returns-in-Stats-clause-err : goal.returns-in-Stats-clause-err
returns-in-Stats-clause-err g c = c.write_stats.ensures.err

pub returns-in-OutAscii-clause-after : goal.returns-in-OutAscii-clause-after
returns-in-OutAscii-clause-after g c = rw c.in-OutAscii.is refl

pub returns-in-OutAscii-clause-ok : goal.returns-in-OutAscii-clause-ok
returns-in-OutAscii-clause-ok g c =
    let same : grid_text c.bytes.result.now c.map.result.now ≡ command_output_text c.args.shelf.now c.args.command.now =
    rw c.bytes.ensures.value (grid_command c.args.shelf.now c.args.command.now _ _ _ c.in-OutAscii.is c.map.ensures.value) in
    rw (← same) c.write_grid.ensures
