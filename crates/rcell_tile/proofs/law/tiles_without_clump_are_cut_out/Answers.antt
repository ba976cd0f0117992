use Rattle.rcell_tile.proofs.TileCoverLemmas.{tiles-without-clump}
use Rattle.rcell_tile.proofs.law.tiles_without_clump_are_cut_out.Goals as goal

pub returns : goal.returns
returns c = tiles-without-clump
