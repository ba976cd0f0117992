use Rattle.std.proofs.Common.{refl}
use Rattle.rcell_pipe.proofs.StatusLemmas.{answered}
use Rattle.rcell_pipe.proofs.exchanging.exchange.Goals as goal

pub returns-clause-done : goal.returns-clause-done
returns-clause-done g c = λ going zero.
    let now = c.respond-responded.result in
    let says = c.respond-responded.ensures in
    answered c.args.input.0.1 now.source.0.1 now.source.1 _ _ _ _ now.outcome.error now.outcome.reported
    now.outcome.written now.outcome.status zero says.status says.same says.flushed (says.asked going) says.end

pub returns-clause-ends : goal.returns-clause-ends
returns-clause-ends g c = λ going.
    let now = c.respond-responded.result in
    let says = c.respond-responded.ensures in
    record {
      error = now.outcome.error;
      reported = now.outcome.reported;
      written = now.outcome.written;
      status_is = says.status;
      read = says.asked going;
      responded = says.end;
      rejected = says.rejected;
      used = says.first;
    }
