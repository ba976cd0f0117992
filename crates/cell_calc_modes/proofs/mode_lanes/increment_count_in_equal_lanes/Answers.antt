use Rattle.cell_calc_modes.proofs.ModeLanes.{counted_at, counted_long}
use Rattle.cell_calc_modes.proofs.mode_lanes.increment_count_in_equal_lanes.Goals as goal

pub returns-clause-long : goal.returns-clause-long
returns-clause-long c = counted_long c.args.count c.args.key c.args.other c.fits-count.0 c.fits-key.0 c.fits-other.0

pub returns-clause-each : goal.returns-clause-each
returns-clause-each c = λ k lt.
    counted_at c.args.count c.args.key c.args.other k c.fits-count.0 c.fits-key.0 c.fits-other.0 lt (c.requires k lt)
