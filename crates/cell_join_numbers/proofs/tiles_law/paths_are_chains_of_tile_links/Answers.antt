use Rattle.cell_join_numbers.proofs.ClumpCellLemmas.{clumps-join}
use Rattle.cell_join_numbers.proofs.tiles_law.paths_are_chains_of_tile_links.Goals as goal

pub returns : goal.returns
returns c = clumps-join
