use Rattle.rcell.proofs.runs.EndLemmas.{is_end}
use Rattle.rcell.proofs.running.execute_and_flush.Goals as goal

pub returns : goal.returns
returns g c =
    let before = g.W.Sink.taken c.args.out.now in
    let ends = c.flush_sink_and_finish_run.ensures.ends in
    rw c.flush_sink_and_finish_run.ensures.taken
    (is_end c.args.shelf c.args.script.now c.requires.numbered before _ (g.W.Sink.faults c.args.out.now) (g.W.Sink.faults c.execute-executed.new.out) (g.W.Sink.faults c.flush_sink_and_finish_run.new.out) ends.fails c.execute-executed.result c.flush_sink_and_finish_run.result ends.answer
    (rw c.statements.ensures at c.execute-executed.ensures.ok) (rw c.statements.ensures at c.execute-executed.ensures.err) c.execute-executed.ensures.faults ends.after)
