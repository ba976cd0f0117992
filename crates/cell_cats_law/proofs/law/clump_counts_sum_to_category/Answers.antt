use Rattle.cell_cats_law.proofs.ClumpCellLemmas.{clumps-divide-their-category}
use Rattle.cell_cats_law.proofs.law.clump_counts_sum_to_category.Goals as goal

pub returns : goal.returns
returns c = clumps-divide-their-category
