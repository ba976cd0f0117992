use Rattle.cell_join_numbers.proofs.ClumpCellLemmas.{firsts-of-the-whole}
use Rattle.cell_join_numbers.proofs.tiles_law.full_map_clump_starts_from_tiles.Goals as goal

pub returns : goal.returns
returns c = firsts-of-the-whole
