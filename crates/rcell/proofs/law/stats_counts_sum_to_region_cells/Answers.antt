use Rattle.rcell.proofs.StatsLemmas.{counts-cover}
use Rattle.rcell.proofs.law.stats_counts_sum_to_region_cells.Goals as goal

pub returns : goal.returns
returns c = counts-cover c.table_lists_occurring_combinations.ensures c.table_counts_add_up_to_cells.ensures
