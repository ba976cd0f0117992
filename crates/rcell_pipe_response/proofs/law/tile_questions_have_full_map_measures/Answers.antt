use Rattle.rcell_pipe_response.proofs.TileAnswerLemmas.{tile-questions}
use Rattle.rcell_pipe_response.proofs.law.tile_questions_have_full_map_measures.Goals as goal

pub returns : goal.returns
returns c = tile-questions
