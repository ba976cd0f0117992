use Rattle.cell_patches.proofs.HaloLemmas.{halo}
use Rattle.cell_patches.proofs.tile_law.halo_determines_measures.Goals as goal

pub returns : goal.returns
returns c = halo
