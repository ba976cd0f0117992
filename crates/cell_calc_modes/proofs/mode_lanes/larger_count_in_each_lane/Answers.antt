use Rattle.std.proofs.Common.{ltb}
use Rattle.cell_calc_modes.proofs.ModeLanes.{chosen_at, chosen_long}
use Rattle.cell_calc_modes.proofs.mode_lanes.larger_count_in_each_lane.Goals as goal

pub returns-clause-long : goal.returns-clause-long
returns-clause-long c =
    chosen_long ltb c.args.most c.args.count c.args.count c.args.most c.fits-most.0 c.fits-count.0 c.fits-count.0
    c.fits-most.0

pub returns-clause-each : goal.returns-clause-each
returns-clause-each c = λ k lt.
    chosen_at ltb c.args.most c.args.count c.args.count c.args.most k c.fits-most.0 c.fits-count.0 c.fits-count.0
    c.fits-most.0 lt
