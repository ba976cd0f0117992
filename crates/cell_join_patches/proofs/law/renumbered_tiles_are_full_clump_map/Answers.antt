use Rattle.cell_join_patches.proofs.RenumberedTileLemmas.{tiles-renumbered}
use Rattle.cell_join_patches.proofs.law.renumbered_tiles_are_full_clump_map.Goals as goal

pub returns : goal.returns
returns c = tiles-renumbered
