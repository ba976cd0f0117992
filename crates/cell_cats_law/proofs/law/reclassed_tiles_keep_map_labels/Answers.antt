use Rattle.cell_cats_law.proofs.PartLemmas.{reclassed-parts-have-the-labels}
use Rattle.cell_cats_law.proofs.law.reclassed_tiles_keep_map_labels.Goals as goal

pub returns : goal.returns
returns c = reclassed-parts-have-the-labels
