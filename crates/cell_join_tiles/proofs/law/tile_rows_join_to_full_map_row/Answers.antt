use Rattle.cell_join_tiles.proofs.LineLemmas.{rows-are-lines}
use Rattle.cell_join_tiles.proofs.law.tile_rows_join_to_full_map_row.Goals as goal

pub returns : goal.returns
returns c = rows-are-lines
