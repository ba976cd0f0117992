use Rattle.cell_join_numbers.proofs.CutLemmas.{cut-outs-are-parts}
use Rattle.cell_join_numbers.proofs.tiles_law.cutting_maps_makes_tiles.Goals as goal

pub returns : goal.returns
returns c = cut-outs-are-parts
