use Rattle.cell_cats_law.proofs.PageLemmas.{rest-follows}
use Rattle.cell_cats_law.proofs.tables_law.rest_of_table_is_later_entries.Goals as goal

pub returns : goal.returns
returns c = rest-follows
