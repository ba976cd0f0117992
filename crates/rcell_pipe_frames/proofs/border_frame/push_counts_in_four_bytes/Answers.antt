use Rattle.std.proofs.Common.{take_all}
use Rattle.std.specs.Int.{w32, to_le_bytes}
use Rattle.rcell_pipe_frames.proofs.AppendLemmas.{appends_more}
use Rattle.rcell_pipe_frames.proofs.border_frame.push_counts_in_four_bytes.Goals as goal

pub loop-count-preserved : goal.loop-count-preserved
loop-count-preserved g c =
    appends_more (to_le_bytes w32) c.args.counts.now c.loop-count.count-index 0 c.loop-count-test.true
    c.loop-count.invariant c.push_four_byte_number.ensures

pub returns : goal.returns
returns g c = rw (take_all c.loop-count.count-index c.args.counts.now c.loop-count-test.false) at c.loop-count.invariant
