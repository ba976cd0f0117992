use Rattle.cell_core_devices.proofs.BlockLemmas.{appends_none, appends_then}
use Rattle.cell_stats.proofs.CellsLemmas.{stands-end, stands-more, stands-next, stands-start}
use Rattle.rcell_pipe_frames.specs.parts.CellEntries.{entry_part_bytes}
use Rattle.rcell_pipe_frames.proofs.cells_frame.push_row_entries.Goals as goal

pub loop-col-init : goal.loop-col-init
loop-col-init g c =
    let by = c.advance_cursors_and_write_cells-count.ensures in
    record {
      appends = appends_none;
      walk = stands-start c.move_cursors_to_row_start.new.cursors c.region.ensures.value c.cols-cols.ensures.value
          c.move_cursors_to_row_start.ensures.width c.move_cursors_to_row_start.ensures.cells by.passed by.ready
          by.cells by.least by.most by.some;
    }

pub loop-col-preserved : goal.loop-col-preserved
loop-col-preserved g c =
    let f = entry_part_bytes c.args.part c.args.selection.shelf.now.maps c.args.selection.picks.now in
    let walk = c.loop-col.invariant.walk in
    let by = c.advance_cursors_and_write_cells-count-in-loop-col.ensures in
    record {
      appends = rw (stands-more walk f c.args.selection.skip)
          (appends_then c.loop-col.invariant.appends c.push_run_of_equal_entries.ensures);
      walk = stands-next walk by.passed by.ready by.cells by.least by.most by.some;
    }

pub returns : goal.returns
returns g c = rw (stands-end c.loop-col.invariant.walk c.loop-col-test.false) at c.loop-col.invariant.appends
