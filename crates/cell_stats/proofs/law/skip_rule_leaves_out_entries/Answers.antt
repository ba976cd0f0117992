use Rattle.cell_stats.proofs.LawLemmas.{table-skips}
use Rattle.cell_stats.proofs.law.skip_rule_leaves_out_entries.Goals as goal

pub returns : goal.returns
returns c = λ skip cells. table-skips skip cells
