use Rattle.cell_cats_law.proofs.CornerLemmas.{corners-only-join}
use Rattle.cell_cats_law.proofs.law.corners_only_join_clumps.Goals as goal

pub returns : goal.returns
returns c = corners-only-join
