use Rattle.cell_join_numbers.proofs.ListingLemmas.{merges-merge}
use Rattle.cell_join_numbers.proofs.tiles_law.merging_in_groups_is_merging_all.Goals as goal

pub returns : goal.returns
returns c = merges-merge
