use Rattle.rcell_pipe_law.proofs.WorkedLemmas.{worked}
use Rattle.rcell_pipe_law.proofs.law.example_requests_match_bytes.Goals as goal

pub returns : goal.returns
returns c = worked c.reading_returns_denoted_map.ensures
