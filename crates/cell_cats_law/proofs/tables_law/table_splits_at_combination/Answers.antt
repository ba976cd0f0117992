use Rattle.cell_cats_law.proofs.PageLemmas.{pages-join}
use Rattle.cell_cats_law.proofs.tables_law.table_splits_at_combination.Goals as goal

pub returns : goal.returns
returns c = pages-join
