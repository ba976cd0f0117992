use Rattle.cell_patches.proofs.FullMapLemmas.{full_map}
use Rattle.cell_patches.proofs.tile_law.full_map_is_tile_of_itself.Goals as goal

pub returns : goal.returns
returns c = full_map
