use Rattle.std.proofs.Common.{◌∙◌, sym}
use Rattle.rcell_pipe_response.specs.declared.frame_run.SinkState.TheVariants.{Refused}
use Rattle.rcell_pipe_response.proofs.EndLemmas.{end_refused, end_flushed}
use Rattle.rcell_pipe_response.proofs.frame_run.end_response_and_flush.Goals as goal

pub returns-then-has_failed : goal.returns-then-has_failed
returns-then-has_failed g c = λ before start text appended. record {
  sending = Refused;
  reported_is = c.outcome_of_full_response.ensures.reported;
  error_is = c.outcome_of_full_response.ensures.error;
  status = c.outcome_of_full_response.ensures.status;
  sent = rw (c.outcome_of_full_response.ensures.written, c.written.ensures)
      (end_refused c.push_end_frame.ensures c.empty.ensures.appends appended
      (sym c.has_failed.ensures ∙ c.if-has_failed.true));
}

pub returns : goal.returns
returns g c = λ before start text appended.
    let good = sym c.has_failed.ensures ∙ c.if-has_failed.false in
    record {
      sending = c.flush_after_block.result;
      reported_is = c.outcome_of_full_response-2.ensures.reported;
      error_is = c.outcome_of_full_response-2.ensures.error;
      status = c.outcome_of_full_response-2.ensures.status;
      sent = rw (c.outcome_of_full_response-2.ensures.written, c.written-2.ensures)
          (end_flushed c.push_end_frame.ensures c.empty.ensures.appends appended c.flush_after_block.result _ good
          (c.empty.ensures.held good) c.flush_after_block.ensures.taken c.flush_after_block.ensures.faults);
    }
