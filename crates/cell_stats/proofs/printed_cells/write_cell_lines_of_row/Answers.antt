use Rattle.cell_core_devices.proofs.BlockLemmas.{appends_none, appends_then}
use Rattle.cell_stats.specs.TableText.{cell_line}
use Rattle.cell_stats.proofs.CellsLemmas.{stands-end, stands-more, stands-next, stands-start}
use Rattle.cell_stats.proofs.printed_cells.write_cell_lines_of_row.Goals as goal

pub loop-col-init : goal.loop-col-init
loop-col-init g c =
    let by = c.advance_cursors_and_write_cells-count.ensures in
    record {
      appends = appends_none;
      walk = stands-start c.move_cursors_to_row_start.new.cursors c.region.ensures.value c.cols-cols.ensures.value
          c.move_cursors_to_row_start.ensures.width c.move_cursors_to_row_start.ensures.cells by.passed by.ready
          by.cells by.least by.most by.some;
    }

pub loop-col-preserved : goal.loop-col-preserved
loop-col-preserved g c =
    let f = cell_line c.args.format.now c.args.selection.shelf.now.maps c.args.selection.picks.now in
    let walk = c.loop-col.invariant.walk in
    let by = c.advance_cursors_and_write_cells-count-in-loop-col.ensures in
    record {
      appends = rw (stands-more walk f c.args.selection.skip)
          (appends_then c.loop-col.invariant.appends c.write_lines_of_equal_cells.ensures);
      walk = stands-next walk by.passed by.ready by.cells by.least by.most by.some;
    }

pub returns : goal.returns
returns g c = rw (stands-end c.loop-col.invariant.walk c.loop-col-test.false) at c.loop-col.invariant.appends
