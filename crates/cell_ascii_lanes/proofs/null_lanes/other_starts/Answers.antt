use Rattle.cell_ascii_lanes.proofs.NullBitLemmas.{starts_are}
use Rattle.cell_ascii_lanes.proofs.null_lanes.other_starts.Goals as goal

pub returns : goal.returns
returns c =
    starts_are c.args.blanks c.args.digits c.following.result c.ranges.blanks.fits c.ranges.digits.fits
    c.following.ensures.first c.following.ensures.each
