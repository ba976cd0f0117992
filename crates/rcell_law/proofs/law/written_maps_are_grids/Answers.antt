use Rattle.rcell_law.proofs.WrittenLemmas.{written_maps_are_grids}
use Rattle.rcell_law.proofs.law.written_maps_are_grids.Goals as goal

pub returns : goal.returns
returns c = written_maps_are_grids
