use Rattle.std.proofs.Common.{[], arith}
use Rattle.rcell_pipe_request.specs.RequestFields.{reading_repeated_n_times}
use Rattle.rcell_pipe_request.specs.Feeds.{left}
use Rattle.rcell_pipe_join.specs.TableEntries.{counts_with_next_count_reading}
use Rattle.rcell_pipe_request.proofs.StepLemmas.{steps-on, steps-end, steps-done, RequestFieldReadingFails-of}
use Rattle.rcell_pipe_join.proofs.table_reading.read_counts.Goals as goal

pub returns-in-Err-clause-reads : goal.returns-in-Err-clause-reads
returns-in-Err-clause-reads g c =
    let so_far = c.loop-i.counts.items in
    let step = counts_with_next_count_reading in (
      RequestFieldReadingFails-of c.in-Err.stop c.args.feed.now c.loop-i.feed c.read_next_count.new.feed (step so_far)
          (reading_repeated_n_times step [] c.args.size) (λ w is. (c.loop-i.invariant.0 w is).0)
          (λ w is error one. steps-end step so_far c.args.size c.loop-i.i (left w c.loop-i.feed) error _
          (omega arith) one (c.loop-i.invariant.0 w is).1)
          c.in-Err.ensures.reads.0,
      λ going. c.in-Err.ensures.reads.1 (c.loop-i.invariant.3 going),
    )

pub loop-i-preserved : goal.loop-i-preserved
loop-i-preserved g c = (
  λ w is.
      let one = c.in-Ok.ensures.reads.0 w is in
      let before = c.loop-i.invariant.0 w one.0 in (
        before.0,
        steps-on counts_with_next_count_reading c.loop-i.counts.items c.read_next_count.new.counts.items c.args.size
            c.loop-i.i
            (left w c.loop-i.feed) (left w c.read_next_count.new.feed) _ (omega arith) one.1 before.1,
      ),
  omega (arith, c.in-Ok.ensures.count, c.loop-i.invariant.1),
  c.in-Ok.ensures.some c.loop-i.invariant.2,
  λ going. c.in-Ok.ensures.reads.1 (c.loop-i.invariant.3 going),
)

pub returns-clause-reads : goal.returns-clause-reads
returns-clause-reads g c = (
  λ w is.
      let before = c.loop-i.invariant.0 w is in (
        before.0,
        steps-done counts_with_next_count_reading c.loop-i.counts.items c.args.size c.loop-i.i
            (left w c.loop-i.feed) _ (omega arith) before.1,
      ),
  c.loop-i.invariant.3,
)
