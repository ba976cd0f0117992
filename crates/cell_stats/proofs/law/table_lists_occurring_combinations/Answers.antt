use Rattle.cell_stats.proofs.TableLemmas.{table_of-IsTable, table_is}
use Rattle.cell_stats.proofs.law.table_lists_occurring_combinations.Goals as goal

pub returns : goal.returns
returns c = λ skip cells. (table_of-IsTable skip cells, table_is skip cells)
