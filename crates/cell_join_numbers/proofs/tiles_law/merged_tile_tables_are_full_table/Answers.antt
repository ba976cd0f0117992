use Rattle.cell_join_numbers.proofs.MergeLemmas.{tables-merge}
use Rattle.cell_join_numbers.proofs.tiles_law.merged_tile_tables_are_full_table.Goals as goal

pub returns : goal.returns
returns c = tables-merge
