use Rattle.rcell_pipe_frames.proofs.StatsLemmas.{cells-stats, table-stats}
use Rattle.rcell_pipe_response.proofs.frame_execution.push_stats_frame.Goals as goal

pub returns-then-options-clause-ok : goal.returns-then-options-clause-ok
returns-then-options-clause-ok g c =
    rw (← cells-stats c.args.shelf.now c.args.line c.args.places.now c.args.options.now c.if-options.true) c.push_frame_of_single_cells.ensures.ok

pub returns-clause-ok : goal.returns-clause-ok
returns-clause-ok g c =
    rw (← table-stats c.args.shelf.now c.args.line c.args.places.now c.args.options.now c.in-Ok.table.pairs c.if-options.false c.in-Ok.ensures.value) c.push_table_frame.ensures
