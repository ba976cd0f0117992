use Rattle.std.proofs.Common.{take, flat_map}
use Rattle.cell_core_devices.specs.Blocks.{IsTextAppendedThroughBlock}
use Rattle.rcell_pipe_frames.specs.Frames.{map_name_at_place}
use Rattle.rcell_pipe_frames.specs.FrameBytes.{length_and_text_bytes}
use Rattle.rcell_pipe_frames.proofs.table_frame.push_shelf_map_names.Given as goal

abbrev pub invariant-loop-place : goal.invariant-loop-place
invariant-loop-place g l = IsTextAppendedThroughBlock g.W.Sink.taken g.W.Sink.faults l.fn.out l.fn.block
    (flat_map (λ place. length_and_text_bytes (map_name_at_place l.shelf place))
    (take l.place-index l.places)) l.out l.block
