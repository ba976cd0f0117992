use Rattle.cell_join_tiles.proofs.NumberLemmas.{borders-number-the-whole}
use Rattle.cell_join_tiles.proofs.law.borders_give_clump_numbers.Goals as goal

pub returns : goal.returns
returns c = borders-number-the-whole
