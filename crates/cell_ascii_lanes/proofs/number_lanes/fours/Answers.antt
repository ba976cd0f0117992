use Rattle.cell_ascii_lanes.proofs.NumberLemmas.{fours_at}
use Rattle.cell_ascii_lanes.proofs.number_lanes.fours.Goals as goal

pub returns : goal.returns
returns c = fours_at c.args.twos c.fits-twos.0 c.requires
