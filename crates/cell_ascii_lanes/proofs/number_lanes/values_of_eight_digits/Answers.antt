use Rattle.cell_ascii_lanes.proofs.NumberLemmas.{eights_at}
use Rattle.cell_ascii_lanes.proofs.number_lanes.values_of_eight_digits.Goals as goal

pub returns : goal.returns
returns c = eights_at c.args.fours c.fits-fours.0 c.requires
