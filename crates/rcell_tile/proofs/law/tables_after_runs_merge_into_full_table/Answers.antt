use Rattle.rcell_tile.proofs.TileTableLemmas.{tables-after-runs-merge}
use Rattle.rcell_tile.proofs.law.tables_after_runs_merge_into_full_table.Goals as goal

pub returns : goal.returns
returns c = tables-after-runs-merge
