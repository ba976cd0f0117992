use Rattle.rcell_pipe_law.proofs.SentRequestLemmas.{sent_are_read}
use Rattle.rcell_pipe_law.proofs.law.sent_requests_are_read.Goals as goal

pub returns : goal.returns
returns c = sent_are_read c.reading_returns_denoted_map.ensures
