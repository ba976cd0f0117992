use Rattle.cell_calc_modes.proofs.ModeLanes.{better_at, better_long}
use Rattle.cell_calc_modes.proofs.mode_lanes.more_frequent_key_in_each_lane.Goals as goal

pub returns-clause-long : goal.returns-clause-long
returns-clause-long c =
    better_long c.args.best c.args.most c.args.key c.args.count c.fits-best.0 c.fits-most.0 c.fits-key.0 c.fits-count.0

pub returns-clause-each : goal.returns-clause-each
returns-clause-each c = λ k lt.
    better_at c.args.best c.args.most c.args.key c.args.count k c.fits-best.0 c.fits-most.0 c.fits-key.0 c.fits-count.0
    lt
