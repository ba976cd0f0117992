use Rattle.cell_cats_law.proofs.ReclassLemmas.{reclass-keeps-cells}
use Rattle.cell_cats_law.proofs.tables_law.reclassed_counts_are_sums.Goals as goal

pub returns : goal.returns
returns c = reclass-keeps-cells
