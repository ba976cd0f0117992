use Rattle.cell_join_numbers.proofs.CutLemmas.{cut-outs-are-tiles}
use Rattle.cell_join_numbers.proofs.tiles_law.cut_outs_are_tiles.Goals as goal

pub returns : goal.returns
returns c = cut-outs-are-tiles
