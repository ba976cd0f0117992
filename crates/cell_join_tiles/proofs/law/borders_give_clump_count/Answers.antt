use Rattle.cell_join_tiles.proofs.NumberLemmas.{borders-count-the-whole}
use Rattle.cell_join_tiles.proofs.law.borders_give_clump_count.Goals as goal

pub returns : goal.returns
returns c = borders-count-the-whole
