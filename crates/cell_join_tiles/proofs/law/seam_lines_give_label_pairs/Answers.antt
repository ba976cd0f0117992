use Rattle.cell_join_tiles.proofs.SeamLemmas.{seam-lines-pair}
use Rattle.cell_join_tiles.proofs.law.seam_lines_give_label_pairs.Goals as goal

pub returns : goal.returns
returns c = seam-lines-pair
