use Rattle.rcell_plan.proofs.HaloReachLemmas.{maps-are-within-reach}
use Rattle.rcell_plan.proofs.values_law.no_map_is_read_beyond_reach.Goals as goal

pub returns : goal.returns
returns c = maps-are-within-reach
