use Rattle.rcell_tile.proofs.PlannedHaloLemmas.{planned-halo}
use Rattle.rcell_tile.proofs.law.planned_halo_is_enough.Goals as goal

pub returns : goal.returns
returns c = planned-halo
