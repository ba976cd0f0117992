use Rattle.rcell_pipe_frames.specs.FrameBytes.{cell_bytes_of_combinations}
use Rattle.rcell_pipe_frames.proofs.ListingLemmas.{Leads}
use Rattle.rcell_pipe_frames.proofs.table_frame.push_combinations.Given as goal

abbrev pub invariant-loop-entry : goal.invariant-loop-entry
invariant-loop-entry g l = Leads g.W.Sink.taken g.W.Sink.faults l.fn.out l.fn.block (cell_bytes_of_combinations l.fn.entries) l.out l.block (cell_bytes_of_combinations l.entry-iterator)
