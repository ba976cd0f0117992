use Rattle.cell_join_tiles.proofs.LabelLineLemmas.{label-lines-label}
use Rattle.cell_join_tiles.proofs.law.first_labels_give_tile_labels.Goals as goal

pub returns : goal.returns
returns c = label-lines-label
