use Rattle.std.proofs.Common.{◌≡◌, ◌∙◌, Some, List, ℕ, Result, Ok, Err, refl, ap, sym, append-nil}
use Rattle.std.specs.Prelude.{slice_get}
use Rattle.std.specs.Result.{OnOk}
use Rattle.cell_core.specs.Grid.{Grid}
use Rattle.cell_core.specs.Shelf.{ShelfValue}
use Rattle.rcell_script.specs.declared.command.Command.{Command}
use Rattle.rcell_script.specs.declared.command.Command.TheVariants.{Stats, OutAscii}
use Rattle.rcell_script.specs.declared.command.StatsOptions.{StatsOptions}
use Rattle.rcell_pipe_frames.specs.Frames.{command_frames, grid_frame, stats_frame}
use Rattle.rcell_pipe_frames.specs.FrameBytes.{frame_bytes, frames_bytes, grid_frame_bytes}
use Rattle.rcell_pipe_response.proofs.ExecutionLemmas.{unchanged_by_stats, unchanged_by_out_ascii}
use Rattle.rcell_pipe_response.proofs.frame_execution.execute_statement.Goals as goal

whenever_ok : {T E : Type 0} (r : Result T E) (P : Type 0) → P → OnOk r P
whenever_ok (Ok x) P p = p
whenever_ok (Err y) P p = tt

-- the bytes of the frame of r.stats
stats_command : (shelf : ShelfValue) (line : ℕ) (command : Command) (places : List ℕ) (options : StatsOptions) → command ≡ Stats places options → frame_bytes (stats_frame shelf line places options) ≡ frames_bytes (command_frames shelf line command)
stats_command shelf line command places options is = sym (append-nil (frame_bytes (stats_frame shelf line places options))) ∙ ap (λ (x : Command). frames_bytes (command_frames shelf line x)) (sym is)

-- the bytes of the frame of r.out.ascii
grid_command : (shelf : ShelfValue) (line : ℕ) (command : Command) (place : ℕ) (null_text name : List ℕ) (grid : Grid) → command ≡ OutAscii place null_text → slice_get shelf.maps place ≡ Some grid → slice_get shelf.names place ≡ Some name
    → grid_frame_bytes (grid_frame line null_text name grid) ≡ frames_bytes (command_frames shelf line command)
grid_command shelf line command place null_text name grid is map named = rw (is, map, named) (sym (append-nil (grid_frame_bytes (grid_frame line null_text name grid))))

pub returns-in-Stats-clause-after : goal.returns-in-Stats-clause-after
returns-in-Stats-clause-after g c = whenever_ok c.push_stats_frame.result _
    (rw c.in-Stats.is (unchanged_by_stats c.args.shelves.now _ _))

pub returns-in-Stats-clause-ok : goal.returns-in-Stats-clause-ok
returns-in-Stats-clause-ok g c =
    let shelf = c.maps_without_halo-shelf.result.now in
    let same : frame_bytes (stats_frame shelf c.args.statement.now.line c.as_slice.result.now c.in-Stats.options)
    ≡ frames_bytes (command_frames shelf c.args.statement.now.line c.args.statement.now.command) =
    rw c.as_slice.ensures
    (stats_command shelf c.args.statement.now.line c.args.statement.now.command _ _ c.in-Stats.is) in
    rw (same, c.maps_without_halo-shelf.ensures.value) at c.push_stats_frame.ensures.ok

pub returns-in-Stats-clause-err : goal.returns-in-Stats-clause-err
returns-in-Stats-clause-err g c = c.push_stats_frame.ensures.err

pub returns-in-OutAscii-clause-after : goal.returns-in-OutAscii-clause-after
returns-in-OutAscii-clause-after g c = whenever_ok c.push_grid_frame.result _
    (rw c.in-OutAscii.is (unchanged_by_out_ascii c.args.shelves.now _ _))

pub returns-in-OutAscii-clause-ok : goal.returns-in-OutAscii-clause-ok
returns-in-OutAscii-clause-ok g c =
    let shelf = c.maps_without_halo-shelf.result.now in
    let same =
    grid_command shelf c.args.statement.now.line c.args.statement.now.command _ _ _ _ c.in-OutAscii.is
    c.map.ensures.value c.name.ensures.value in
    rw (c.bytes.ensures.value, c.bytes-in-OutAscii.ensures.value, same, c.maps_without_halo-shelf.ensures.value) at
    c.push_grid_frame.ensures.ok

pub returns-in-OutAscii-clause-err : goal.returns-in-OutAscii-clause-err
returns-in-OutAscii-clause-err g c = c.push_grid_frame.ensures.err
