use Rattle.cell_join_tiles.proofs.FinishLemmas.{grid-runs}
use Rattle.cell_join_tiles.proofs.law.joined_tiles_give_clump_numbers.Goals as goal

pub returns : goal.returns
returns c = grid-runs
