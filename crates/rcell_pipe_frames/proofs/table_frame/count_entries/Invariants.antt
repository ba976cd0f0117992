use Rattle.std.proofs.Common.{◌≡◌, ◌+◌, length}
use Rattle.rcell_pipe_frames.proofs.table_frame.count_entries.Given as goal

abbrev pub invariant-loop-entry : goal.invariant-loop-entry
invariant-loop-entry l = l.count + length l.entry-iterator ≡ length l.fn.entries
