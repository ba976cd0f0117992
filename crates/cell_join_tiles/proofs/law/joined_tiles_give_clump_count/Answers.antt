use Rattle.cell_join_tiles.proofs.FinishLemmas.{grid-clumps}
use Rattle.cell_join_tiles.proofs.law.joined_tiles_give_clump_count.Goals as goal

pub returns : goal.returns
returns c = grid-clumps
