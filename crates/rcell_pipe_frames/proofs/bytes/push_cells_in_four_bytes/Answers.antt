use Rattle.std.proofs.Common.{take_all}
use Rattle.cell_core_devices.proofs.PieceLemmas.{flat_map-take}
use Rattle.cell_core_devices.proofs.BlockLemmas.{appends_then}
use Rattle.rcell_pipe_frames.specs.FrameBytes.{four_bytes_of_cell}
use Rattle.rcell_pipe_frames.proofs.bytes.push_cells_in_four_bytes.Goals as goal

pub loop-cell-preserved : goal.loop-cell-preserved
loop-cell-preserved g c =
    rw (flat_map-take four_bytes_of_cell c.args.cells.now c.loop-cell.cell-index c.cell-item.result c.cell-item.result c.loop-cell-test.true c.cell-item.is) (appends_then c.loop-cell.invariant c.push_cell_in_four_bytes.ensures)

pub returns : goal.returns
returns g c = rw (take_all c.loop-cell.cell-index c.args.cells.now c.loop-cell-test.false) at c.loop-cell.invariant
