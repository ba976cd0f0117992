use Rattle.rcell_pipe_response.proofs.EndLemmas.{text_done, text_stopped, text_failed}
use Rattle.rcell_pipe_response.proofs.frame_run.run_statements_as_text.Goals as goal

pub returns-in-Ok : goal.returns-in-Ok
returns-in-Ok g c = λ read questions accepted.
    let done = rw (c.into_outer-shelf.ensures, c.statements.ensures) at c.in-Ok.ensures.ok in
    text_done read c.args.shelves c.args.script.now questions accepted _ done
    (rw c.in-Ok.is at c.execute.ensures.faults)
    (c.flush_sink_after_text.ensures _ done.text done.taken done.count)

pub returns-in-Memory : goal.returns-in-Memory
returns-in-Memory g c = λ read questions accepted.
    let stopped = rw (c.into_outer-shelf.ensures, c.statements.ensures, c.in-Memory.is) at c.in-Err.ensures.err in
    text_stopped read c.args.shelves c.args.script.now questions accepted _ c.in-Memory.line stopped
    (rw (c.in-Err.is, c.in-Memory.is) at c.execute.ensures.faults)
    (c.flush_sink_after_text-in-Memory.ensures _ stopped.text stopped.taken stopped.count)

pub returns : goal.returns
returns g c = λ read questions accepted.
    text_failed read c.args.shelves c.args.script.now questions accepted _
    (rw (c.into_outer-shelf.ensures, c.statements.ensures, c.in-Write.is) at c.in-Err.ensures.err)
    (rw (c.in-Err.is, c.in-Write.is) at c.execute.ensures.faults)
    c.outcome_after_failed_write.ensures.reported
    c.outcome_after_failed_write.ensures.error c.outcome_after_failed_write.ensures.status
    c.outcome_after_failed_write.ensures.written
