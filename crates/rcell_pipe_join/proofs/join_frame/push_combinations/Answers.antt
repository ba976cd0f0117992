use Rattle.std.proofs.Common.{flat_map, take_all}
use Rattle.cell_core_devices.proofs.BlockLemmas.{appends_then}
use Rattle.cell_core_devices.proofs.PieceLemmas.{flat_map-take}
use Rattle.rcell_pipe_frames.specs.FrameBytes.{four_bytes_of_cell}
use Rattle.rcell_pipe_join.proofs.join_frame.push_combinations.Goals as goal

pub loop-entry-preserved : goal.loop-entry-preserved
loop-entry-preserved g c =
    rw
    (flat_map-take (λ entry. flat_map four_bytes_of_cell entry.0) c.args.entries.now c.loop-entry.entry-index
    c.entry-item.result c.entry-item.result c.loop-entry-test.true c.entry-item.is)
    (appends_then c.loop-entry.invariant (rw c.cells.ensures at c.push_cells_in_four_bytes.ensures))

pub returns : goal.returns
returns g c =
    rw (take_all c.loop-entry.entry-index c.args.entries.now c.loop-entry-test.false) at c.loop-entry.invariant
