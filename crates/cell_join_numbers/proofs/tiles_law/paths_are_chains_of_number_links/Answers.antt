use Rattle.cell_join_numbers.proofs.ClumpCellLemmas.{numbers-join}
use Rattle.cell_join_numbers.proofs.tiles_law.paths_are_chains_of_number_links.Goals as goal

pub returns : goal.returns
returns c = numbers-join
