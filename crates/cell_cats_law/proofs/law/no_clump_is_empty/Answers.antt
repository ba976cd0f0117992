use Rattle.cell_cats_law.proofs.ClumpCellLemmas.{no-clump-is-empty}
use Rattle.cell_cats_law.proofs.law.no_clump_is_empty.Goals as goal

pub returns : goal.returns
returns c = no-clump-is-empty
