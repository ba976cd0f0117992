use Rattle.std.proofs.Common.{◌∙◌, arith}
use Rattle.rcell_pipe_request.specs.Requests.{next_map_reading}
use Rattle.rcell_pipe_request.proofs.StepLemmas.{one-step-on, all-steps-done, step-fails}
use Rattle.rcell_pipe_request.proofs.request.read_more_maps_onto_shelf.Goals as goal

pub returns-in-Err-clause-reads : goal.returns-in-Err-clause-reads
returns-in-Err-clause-reads g c =
    step-fails next_map_reading c.args.shelf.now c.args.count c.args.feed.now c.loop-i.i c.loop-i.shelf c.loop-i.feed
    c.loop-i.invariant.0 c.in-Err.stop _ (omega arith) c.in-Err.ensures.reads

pub loop-i-preserved : goal.loop-i-preserved
loop-i-preserved g c = (
  one-step-on next_map_reading c.args.shelf.now c.args.count c.args.feed.now c.loop-i.i c.loop-i.shelf c.loop-i.feed
      c.loop-i.invariant.0 _ _ (omega arith) c.in-Ok.ensures.reads,
  omega (arith, c.in-Ok.ensures.count, c.loop-i.invariant.1),
  c.in-Ok.ensures.region ∙ c.loop-i.invariant.2,
)

pub returns-clause-reads : goal.returns-clause-reads
returns-clause-reads g c =
    all-steps-done next_map_reading c.args.shelf.now c.args.count c.args.feed.now c.loop-i.i c.loop-i.shelf
    c.loop-i.feed c.loop-i.invariant.0 (omega arith)
