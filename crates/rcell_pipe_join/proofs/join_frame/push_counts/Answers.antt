use Rattle.std.proofs.Common.{take_all}
use Rattle.cell_core_devices.proofs.BlockLemmas.{appends_then}
use Rattle.cell_core_devices.proofs.PieceLemmas.{flat_map-take}
use Rattle.rcell_pipe_frames.specs.FrameBytes.{eight_bytes_of_number}
use Rattle.rcell_pipe_join.proofs.join_frame.push_counts.Goals as goal

pub loop-entry-preserved : goal.loop-entry-preserved
loop-entry-preserved g c =
    rw
    (flat_map-take (λ entry. eight_bytes_of_number entry.1) c.args.entries.now c.loop-entry.entry-index
    c.entry-item.result c.entry-item.result c.loop-entry-test.true c.entry-item.is)
    (appends_then c.loop-entry.invariant c.push_eight_byte_number.ensures)

pub returns : goal.returns
returns g c =
    rw (take_all c.loop-entry.entry-index c.args.entries.now c.loop-entry-test.false) at c.loop-entry.invariant
