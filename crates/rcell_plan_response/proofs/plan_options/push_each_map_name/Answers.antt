use Rattle.std.proofs.Common.{take_all, ℕ}
use Rattle.rcell_pipe_frames.specs.FrameBytes.{length_and_text_bytes}
use Rattle.rcell_plan_response.specs.MapNames.{name_of_map_at_place}
use Rattle.rcell_pipe_frames.proofs.AppendLemmas.{appends_more}
use Rattle.rcell_plan_response.proofs.plan_options.push_each_map_name.Goals as goal

pub loop-place-preserved : goal.loop-place-preserved
loop-place-preserved g c =
    appends_more (λ (p : ℕ). length_and_text_bytes (name_of_map_at_place c.args.names.now p)) c.args.places.now
    c.loop-place.place-index _
    c.loop-place-test.true c.loop-place.invariant (rw c.name_of_map_at_place.ensures at c.push_length_and_text.ensures)

pub returns : goal.returns
returns g c = rw (take_all c.loop-place.place-index c.args.places.now c.loop-place-test.false) at c.loop-place.invariant
