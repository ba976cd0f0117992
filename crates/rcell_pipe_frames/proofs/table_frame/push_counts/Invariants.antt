use Rattle.std.proofs.Common.{flat_map}
use Rattle.rcell_pipe_frames.specs.FrameBytes.{eight_bytes_of_number}
use Rattle.rcell_pipe_frames.proofs.ListingLemmas.{Leads}
use Rattle.rcell_pipe_frames.proofs.table_frame.push_counts.Given as goal

abbrev pub invariant-loop-entry : goal.invariant-loop-entry
invariant-loop-entry g l = Leads g.W.Sink.taken g.W.Sink.faults l.fn.out l.fn.block (flat_map (λ pair. eight_bytes_of_number pair.1) l.fn.entries) l.out l.block (flat_map (λ pair. eight_bytes_of_number pair.1) l.entry-iterator)
