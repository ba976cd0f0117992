use Rattle.cell_join_tiles.proofs.LineLemmas.{sides-are-lines}
use Rattle.cell_join_tiles.proofs.law.tile_sides_are_full_map_lines.Goals as goal

pub returns : goal.returns
returns c = sides-are-lines
