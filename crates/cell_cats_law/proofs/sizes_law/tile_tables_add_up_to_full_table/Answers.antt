use Rattle.cell_cats_law.proofs.TileSizeLemmas.{tile-tables-give-the-whole}
use Rattle.cell_cats_law.proofs.sizes_law.tile_tables_add_up_to_full_table.Goals as goal

pub returns : goal.returns
returns c = tile-tables-give-the-whole
