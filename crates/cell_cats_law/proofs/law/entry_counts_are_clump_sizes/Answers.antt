use Rattle.cell_cats_law.proofs.ClumpCellLemmas.{entries-are-whole}
use Rattle.cell_cats_law.proofs.law.entry_counts_are_clump_sizes.Goals as goal

pub returns : goal.returns
returns c = entries-are-whole
