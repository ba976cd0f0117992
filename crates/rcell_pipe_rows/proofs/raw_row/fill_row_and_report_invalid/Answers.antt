use Rattle.std.proofs.Common.{arith}
use Rattle.rcell_pipe_rows.proofs.RowLemmas.{cells_more, outside_more}
use Rattle.rcell_pipe_rows.proofs.raw_row.fill_row_and_report_invalid.Goals as goal

pub loop-i-preserved : goal.loop-i-preserved
loop-i-preserved c = (
  cells_more c.args.kind c.args.nodata c.args.mask.now c.args.bytes.now c.loop-i.i c.loop-i.cells
      c.raw_cell_at_place.result (omega arith) c.loop-i.invariant.0 c.raw_cell_at_place.ensures,
  outside_more c.args.kind c.args.nodata c.args.mask.now c.args.bytes.now c.loop-i.i c.loop-i.outside
      c.is_invalid_raw_number_at_place-outside.result c.loop-i.invariant.1
      c.is_invalid_raw_number_at_place-outside.ensures,
)
