use Rattle.rcell_plan.proofs.HaloLemmas.{reach-is-enough}
use Rattle.rcell_plan.proofs.values_law.reach_and_position_are_enough.Goals as goal

pub returns : goal.returns
returns c = reach-is-enough
