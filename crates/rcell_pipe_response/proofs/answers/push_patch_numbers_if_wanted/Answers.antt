use Rattle.std.proofs.lemmas.Result.{on_ok_weaker}
use Rattle.rcell_pipe_frames.specs.Frames.{PatchNumbers, patch_numbers_frame}
use Rattle.rcell_pipe_response.proofs.QuestionLemmas.{one_frame}
use Rattle.rcell_pipe_response.proofs.answers.push_patch_numbers_if_wanted.Goals as goal

pub returns-then-with_numbers-clause-ok : goal.returns-then-with_numbers-clause-ok
returns-then-with_numbers-clause-ok g c =
    let frame = PatchNumbers (patch_numbers_frame c.args.place c.args.numbers.now) in
    rw c.if-with_numbers.true (on_ok_weaker c.push_patch_numbers_frame.result (one_frame frame)
    c.push_patch_numbers_frame.ensures.ok)
