use Rattle.cell_cats_law.proofs.PartLemmas.{parts-print-the-whole}
use Rattle.cell_cats_law.proofs.law.tiles_print_like_full_map.Goals as goal

pub returns : goal.returns
returns c = parts-print-the-whole
