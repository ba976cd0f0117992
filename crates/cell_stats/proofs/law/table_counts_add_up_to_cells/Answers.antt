use Rattle.cell_stats.proofs.LawLemmas.{counts-add-up}
use Rattle.cell_stats.proofs.law.table_counts_add_up_to_cells.Goals as goal

pub returns : goal.returns
returns c = λ maps picks rows cols. counts-add-up maps picks rows cols
