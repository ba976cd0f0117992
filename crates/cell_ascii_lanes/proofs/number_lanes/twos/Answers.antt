use Rattle.cell_ascii_lanes.proofs.NumberLemmas.{twos_at}
use Rattle.cell_ascii_lanes.proofs.number_lanes.twos.Goals as goal

pub returns : goal.returns
returns c = twos_at c.args.digits c.fits-digits.0 c.requires
