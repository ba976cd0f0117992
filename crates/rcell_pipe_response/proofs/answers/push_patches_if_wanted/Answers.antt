use Rattle.std.specs.Option.{option_map}
use Rattle.rcell_pipe_frames.specs.Frames.{Patches}
use Rattle.rcell_pipe_response.proofs.QuestionLemmas.{one_frame}
use Rattle.rcell_pipe_response.proofs.answers.push_patches_if_wanted.Goals as goal

pub returns-in-Some : goal.returns-in-Some
returns-in-Some g c =
    let question = c.args.question.now in
    let frame = Patches (record {
      question = c.args.place;
      joining = question.joining;
      depth = question.depth;
      patches = c.in-Some.found.patches.items;
      zones = option_map (λ z. z.items) c.in-Some.found.zones;
    }) in
    rw c.in-Some.is (one_frame frame (rw c.deref.ensures.value at c.push_patches_frame.ensures))
