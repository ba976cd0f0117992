use Rattle.rcell_worked.proofs.SentResponseLemmas.{sent_get_frames}
use Rattle.rcell_worked.proofs.law.sent_requests_get_frames.Goals as goal

pub returns : goal.returns
returns c = sent_get_frames c.sent_requests_are_read.ensures
