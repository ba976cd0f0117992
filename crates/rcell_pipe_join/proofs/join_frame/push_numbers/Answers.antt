use Rattle.std.proofs.Common.{take_all, unwrap_or}
use Rattle.rcell_pipe_frames.proofs.AppendLemmas.{appends_more}
use Rattle.rcell_pipe_frames.specs.FrameBytes.{eight_bytes_of_number}
use Rattle.rcell_pipe_join.proofs.join_frame.push_numbers.Goals as goal

pub loop-number-preserved : goal.loop-number-preserved
loop-number-preserved g c =
    appends_more (λ number. eight_bytes_of_number (unwrap_or number 0)) c.args.numbers.now c.loop-number.number-index _
    c.loop-number-test.true c.loop-number.invariant (rw c.unwrap_or.ensures at c.push_eight_byte_number.ensures)

pub returns : goal.returns
returns g c = rw (take_all c.loop-number.number-index c.args.numbers.now c.loop-number-test.false) at
    c.loop-number.invariant
