use Rattle.std.proofs.Common.{◌∙◌, refl}
use Rattle.rcell_pipe_response.proofs.EndLemmas.{sent_flushed}
use Rattle.rcell_pipe_response.proofs.frame_run.flush_sink_after_text.Goals as goal

pub returns : goal.returns
returns g c = λ before text all count. record {
  sending = c.flush_sink.result;
  reported_is = c.outcome_of_full_response.ensures.reported;
  error_is = c.outcome_of_full_response.ensures.error;
  status = c.outcome_of_full_response.ensures.status;
  sent = sent_flushed c.flush_sink.result before _ text all refl
      (c.outcome_of_full_response.ensures.written ∙ count) c.flush_sink.ensures.taken c.flush_sink.ensures.faults;
}
