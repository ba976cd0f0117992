use Rattle.cell_ascii_lanes.proofs.ByteBitLemmas.{short_words}
use Rattle.cell_ascii_lanes.proofs.word_lanes.are_stars_or_short_numbers.Goals as goal

pub returns : goal.returns
returns c = short_words c.args.words c.args.digits c.args.stars c.ranges.digits.fits c.ranges.stars.fits
