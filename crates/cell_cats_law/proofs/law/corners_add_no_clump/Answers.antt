use Rattle.cell_cats_law.proofs.CornerLemmas.{corners-add-no-clump}
use Rattle.cell_cats_law.proofs.law.corners_add_no_clump.Goals as goal

pub returns : goal.returns
returns c = corners-add-no-clump
