use Rattle.cell_cats_law.proofs.NumberTableLemmas.{numbers-are-listed}
use Rattle.cell_cats_law.proofs.sizes_law.clump_table_lists_sizes.Goals as goal

pub returns : goal.returns
returns c = numbers-are-listed
