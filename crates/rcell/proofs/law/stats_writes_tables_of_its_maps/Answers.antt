use Rattle.rcell.proofs.StatsLemmas.{tables-printed}
use Rattle.rcell.proofs.law.stats_writes_tables_of_its_maps.Goals as goal

pub returns : goal.returns
returns c = tables-printed c.table_lists_occurring_combinations.ensures
