use Rattle.std.proofs.Common.{[], arith}
use Rattle.rcell_pipe_request.specs.RequestFields.{reading_repeated_n_times}
use Rattle.rcell_pipe_request.specs.Feeds.{left}
use Rattle.rcell_pipe_join.specs.PatchLists.{runs_with_next_run_reading}
use Rattle.rcell_pipe_request.proofs.StepLemmas.{steps-on, steps-end, steps-done, RequestFieldReadingFails-of}
use Rattle.rcell_pipe_join.proofs.patch_runs.read_given_number_of_runs.Goals as goal

pub returns-in-Err : goal.returns-in-Err
returns-in-Err g c =
    let so_far = c.loop-i.numbering in
    let step = runs_with_next_run_reading in (
      RequestFieldReadingFails-of c.in-Err.stop c.args.feed.now c.loop-i.feed c.read_next_run.new.feed (step so_far)
          (reading_repeated_n_times step [] c.args.count) (λ w is. (c.loop-i.invariant.0 w is).0)
          (λ w is error one. steps-end step so_far c.args.count c.loop-i.i (left w c.loop-i.feed) error _
          (omega arith) one (c.loop-i.invariant.0 w is).1)
          c.in-Err.ensures.0,
      λ going. c.in-Err.ensures.1 (c.loop-i.invariant.1 going),
    )

pub loop-i-preserved : goal.loop-i-preserved
loop-i-preserved g c = (
  λ w is.
      let one = c.in-Ok.ensures.0 w is in
      let before = c.loop-i.invariant.0 w one.0 in (
        before.0,
        steps-on runs_with_next_run_reading c.loop-i.numbering c.in-Ok.more c.args.count c.loop-i.i
            (left w c.loop-i.feed) (left w c.read_next_run.new.feed) _ (omega arith) one.1 before.1,
      ),
  λ going. c.in-Ok.ensures.1 (c.loop-i.invariant.1 going),
)

pub returns : goal.returns
returns g c = (
  λ w is.
      let before = c.loop-i.invariant.0 w is in (
        before.0,
        steps-done runs_with_next_run_reading c.loop-i.numbering c.args.count c.loop-i.i
            (left w c.loop-i.feed) _ (omega arith) before.1,
      ),
  c.loop-i.invariant.1,
)
