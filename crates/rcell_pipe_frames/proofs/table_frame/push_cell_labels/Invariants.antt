use Rattle.std.proofs.Common.{take, flat_map}
use Rattle.std.specs.List.{zip}
use Rattle.cell_core_devices.specs.Blocks.{IsTextAppendedThroughBlock}
use Rattle.cell_stats.specs.TableText.{label_of_cell}
use Rattle.rcell_pipe_frames.specs.FrameBytes.{length_and_text_bytes}
use Rattle.rcell_pipe_frames.proofs.table_frame.push_cell_labels.Given as goal

abbrev pub invariant-loop-i : goal.invariant-loop-i
invariant-loop-i g l = IsTextAppendedThroughBlock g.W.Sink.taken g.W.Sink.faults l.fn.out l.fn.block (flat_map (λ p. length_and_text_bytes (label_of_cell l.shelf.maps p.0 p.1)) (take l.i (zip l.places l.cells))) l.out l.block
