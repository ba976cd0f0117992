use Rattle.cell_join_numbers.proofs.ListingLemmas.{sums-merge}
use Rattle.cell_join_numbers.proofs.tiles_law.summed_counts_are_the_merge.Goals as goal

pub returns : goal.returns
returns c = sums-merge
