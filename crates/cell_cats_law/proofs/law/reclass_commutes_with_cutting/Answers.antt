use Rattle.cell_cats_law.proofs.PartLemmas.{reclassed-parts-are-parts}
use Rattle.cell_cats_law.proofs.law.reclass_commutes_with_cutting.Goals as goal

pub returns : goal.returns
returns c = reclassed-parts-are-parts
