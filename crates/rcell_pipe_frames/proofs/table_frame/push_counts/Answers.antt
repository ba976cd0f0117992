use Rattle.std.proofs.Common.{flat_map}
use Rattle.rcell_pipe_frames.specs.FrameBytes.{eight_bytes_of_number}
use Rattle.rcell_pipe_frames.proofs.ListingLemmas.{leads_first, leads_more, leads_done}
use Rattle.rcell_pipe_frames.proofs.table_frame.push_counts.Goals as goal

pub loop-entry-init : goal.loop-entry-init
loop-entry-init g c = rw c.into_iter-entry-iterator.ensures.into_iter_gives leads_first

pub loop-entry-preserved : goal.loop-entry-preserved
loop-entry-preserved g c = leads_more (eight_bytes_of_number c.in-Some.entry.count) (flat_map (λ pair. eight_bytes_of_number pair.1) c.next.new.self) (rw c.in-Some.ensures.steps at c.loop-entry.invariant) c.push_eight_byte_number.ensures

pub returns : goal.returns
returns g c = leads_done (rw c.in-None.ensures.steps.0 at c.loop-entry.invariant)
