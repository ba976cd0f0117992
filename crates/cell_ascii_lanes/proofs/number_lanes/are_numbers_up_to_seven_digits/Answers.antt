use Rattle.cell_ascii_lanes.proofs.NumberLemmas.{numbers}
use Rattle.cell_ascii_lanes.proofs.number_lanes.are_numbers_up_to_seven_digits.Goals as goal

pub returns : goal.returns
returns c = numbers c.args.blanks c.args.digits c.ranges.blanks.fits c.ranges.digits.fits
