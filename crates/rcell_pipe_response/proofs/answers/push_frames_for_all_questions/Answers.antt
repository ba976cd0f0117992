use Rattle.std.proofs.Common.{◌∙◌, ◌+◌, sym, take_all}
use Rattle.rcell_pipe_response.proofs.QuestionLemmas.{answered_none, answered_more, answers_first}
use Rattle.rcell_pipe_response.proofs.answers.push_frames_for_all_questions.Goals as goal

pub loop-i-init : goal.loop-i-init
loop-i-init g c = answered_none _ _ _

pub loop-i-preserved : goal.loop-i-preserved
loop-i-preserved g c =
    answered_more c.args.questions.now c.loop-i.i c.loop-i.invariant c.index-questions-i.result c.loop-i-test.true
    c.index-questions-i.is c.in-Ok.ensures.ok c.empty.ensures.appends

pub returns-in-Err-clause-err : goal.returns-in-Err-clause-err
returns-in-Err-clause-err g c = record {
  so_far = rw (c.in-Err.ensures.err.0, c.in-Err.ensures.err.1)
      (answers_first c.args.questions.now c.loop-i.i c.loop-i.invariant);
  failed = tt;
}

pub returns-then-has_failed-clause-err : goal.returns-then-has_failed-clause-err
returns-then-has_failed-clause-err g c = record {
  so_far = answers_first c.args.questions.now (c.loop-i.i + 1)
      (answered_more c.args.questions.now c.loop-i.i c.loop-i.invariant c.index-questions-i.result
      c.loop-i-test.true c.index-questions-i.is c.in-Ok.ensures.ok c.empty.ensures.appends);
  failed = sym c.has_failed.ensures ∙ c.if-has_failed.true;
}

pub returns-clause-ok : goal.returns-clause-ok
returns-clause-ok g c =
    rw (take_all c.loop-i.i c.args.questions.now c.loop-i-test.false) at c.loop-i.invariant
