use Rattle.cell_join_numbers.proofs.SumLemmas.{parts-add-up}
use Rattle.cell_join_numbers.proofs.tiles_law.tile_counts_add_up.Goals as goal

pub returns : goal.returns
returns c = parts-add-up
