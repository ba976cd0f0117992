use Rattle.cell_join_numbers.proofs.ClumpCellLemmas.{firsts-are-firsts}
use Rattle.cell_join_numbers.proofs.tiles_law.clump_starts_are_tile_clump_starts.Goals as goal

pub returns : goal.returns
returns c = firsts-are-firsts
