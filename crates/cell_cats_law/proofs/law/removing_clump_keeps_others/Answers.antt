use Rattle.cell_cats_law.proofs.WithoutLemmas.{other-clumps-stay}
use Rattle.cell_cats_law.proofs.law.removing_clump_keeps_others.Goals as goal

pub returns : goal.returns
returns c = other-clumps-stay
