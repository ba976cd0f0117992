use Rattle.cell_stats.proofs.LawLemmas.{table-without-null}
use Rattle.cell_stats.proofs.law.table_leaves_out_null.Goals as goal

pub returns : goal.returns
returns c = λ maps place rows cols. table-without-null maps place rows cols
