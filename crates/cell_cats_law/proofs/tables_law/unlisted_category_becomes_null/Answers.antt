use Rattle.cell_cats_law.proofs.ReclassLemmas.{unnamed-is-null}
use Rattle.cell_cats_law.proofs.tables_law.unlisted_category_becomes_null.Goals as goal

pub returns : goal.returns
returns c = unnamed-is-null
