use Rattle.std.proofs.Common.{refl}
use Rattle.cell_calc_modes.specs.parts.ModeLanes.{cell_denoted_by_key, number_in_lane}
use Rattle.cell_calc_modes.proofs.ModeLanes.{most_first, most_step, most_all}
use Rattle.cell_calc_modes.proofs.mode_lanes.most_frequent.Goals as goal

pub loop-i-init : goal.loop-i-init
loop-i-init c =
    record {
      best_long = refl;
      most_long = refl;
      each = λ k lt. most_first k c.args.keys.now lt;
    }

pub loop-i-preserved : goal.loop-i-preserved
loop-i-preserved c =
    record {
      best_long = c.more_frequent_key_in_each_lane-best.ensures.long;
      most_long = c.larger_count_in_each_lane-most.ensures.long;
      each = λ k lt. most_step k c.loop-i.i c.args.keys.now c.vector_at-key.result
          (number_in_lane k c.occurrences-count.result)
          (number_in_lane k c.loop-i.best) (number_in_lane k c.loop-i.most) _ _
          c.loop-i-test.true c.vector_at-key.ensures (c.loop-i.invariant.each k lt)
          (c.occurrences-count.ensures.each k lt)
          (c.more_frequent_key_in_each_lane-best.ensures.each k lt)
          (c.larger_count_in_each_lane-most.ensures.each k lt);
    }

pub returns : goal.returns
returns c = λ k lt.
    most_all k c.loop-i.i c.args.keys.now (cell_denoted_by_key (number_in_lane k c.loop-i.best))
    (number_in_lane k c.loop-i.most) c.loop-i-test.false
    (c.loop-i.invariant.each k lt)
