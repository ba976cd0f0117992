use Rattle.rcell_plan_response.proofs.TileResponseLemmas.{tile-responses-join-into-frames}
use Rattle.rcell_plan_response.proofs.TileResponseLemmas.{tile-responses-join-into-response}
use Rattle.rcell_plan_response.proofs.law.tile_responses_join_into_full_response.Goals as goal

pub returns-clause-frames : goal.returns-clause-frames
returns-clause-frames c = tile-responses-join-into-frames c.text_denotes_at_most_one_script.ensures

pub returns-clause-response : goal.returns-clause-response
returns-clause-response c = tile-responses-join-into-response c.text_denotes_at_most_one_script.ensures
