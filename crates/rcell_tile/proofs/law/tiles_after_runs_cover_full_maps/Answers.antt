use Rattle.rcell_tile.proofs.TileCoverLemmas.{tiles-cover}
use Rattle.rcell_tile.proofs.law.tiles_after_runs_cover_full_maps.Goals as goal

pub returns : goal.returns
returns c = tiles-cover
