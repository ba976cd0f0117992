use Rattle.std.proofs.Common.{arith}
use Rattle.cell_ascii_lanes.proofs.ByteBitLemmas.{row_fits, row_picks, row_long}
use Rattle.cell_ascii_lanes.proofs.word_lanes.selected_lanes_moved_to_start.Goals as goal

pub swizzle : goal.swizzle
unfolding lib.Count.ones
swizzle c = row_fits _ tt c.args.bits c.requires

pub returns-clause-lanes : goal.returns-clause-lanes
unfolding lib.Count.ones
returns-clause-lanes c = λ ms long is. row_picks _ tt c.args.values (omega (arith, c.fits-values.0)) c.args.bits c.requires ms long is

pub returns-clause-long : goal.returns-clause-long
unfolding lib.Count.ones
returns-clause-long c = row_long _ tt c.args.values c.args.bits c.requires
