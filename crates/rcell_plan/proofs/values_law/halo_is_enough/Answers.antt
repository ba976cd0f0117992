use Rattle.rcell_plan.proofs.HaloLemmas.{halo-is-enough}
use Rattle.rcell_plan.proofs.values_law.halo_is_enough.Goals as goal

pub returns : goal.returns
returns c = halo-is-enough
