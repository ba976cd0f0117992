use Rattle.cell_cats_law.proofs.ExistsLemmas.{clump_map_exists}
use Rattle.cell_cats_law.proofs.numbering_law.clump_map_exists.Goals as goal

pub returns : goal.returns
returns c = clump_map_exists
