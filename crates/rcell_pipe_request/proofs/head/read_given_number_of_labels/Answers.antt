use Rattle.std.proofs.Common.{[], arith}
use Rattle.rcell_pipe_request.specs.Heads.{labels_as_values, next_label_reading}
use Rattle.rcell_pipe_request.proofs.StepLemmas.{one-step-on, all-steps-done, field-step-fails}
use Rattle.rcell_pipe_request.proofs.head.read_given_number_of_labels.Goals as goal

pub returns-in-Err-clause-reads : goal.returns-in-Err-clause-reads
returns-in-Err-clause-reads g c =
    field-step-fails next_label_reading [] c.args.count c.args.feed.now c.loop-i.i
    (labels_as_values c.loop-i.labels.items) c.loop-i.feed c.loop-i.invariant.0 c.in-Err.stop _ (omega arith)
    c.in-Err.ensures.reads

pub loop-i-preserved : goal.loop-i-preserved
loop-i-preserved g c = (
  one-step-on next_label_reading [] c.args.count c.args.feed.now c.loop-i.i (labels_as_values c.loop-i.labels.items)
      c.loop-i.feed c.loop-i.invariant.0 _ _ (omega arith) c.in-Ok.ensures.reads,
  c.in-Ok.ensures.good c.loop-i.invariant.1,
)

pub returns-clause-reads : goal.returns-clause-reads
returns-clause-reads g c =
    all-steps-done next_label_reading [] c.args.count c.args.feed.now c.loop-i.i
    (labels_as_values c.loop-i.labels.items) c.loop-i.feed c.loop-i.invariant.0 (omega arith)
