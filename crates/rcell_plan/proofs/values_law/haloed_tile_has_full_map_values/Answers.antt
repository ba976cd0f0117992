use Rattle.rcell_plan.proofs.TileLemmas.{tiles-make-the-map}
use Rattle.rcell_plan.proofs.values_law.haloed_tile_has_full_map_values.Goals as goal

pub returns : goal.returns
returns c = tiles-make-the-map
