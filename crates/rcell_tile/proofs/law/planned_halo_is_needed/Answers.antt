use Rattle.rcell_tile.proofs.NeededHaloLemmas.{needed-halo}
use Rattle.rcell_tile.proofs.law.planned_halo_is_needed.Goals as goal

pub returns : goal.returns
returns c = needed-halo
