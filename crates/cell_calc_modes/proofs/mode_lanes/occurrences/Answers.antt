use Rattle.std.proofs.Common.{refl, eqb, replicate, get_or}
use Rattle.std.proofs.lemmas.Simd.{get_or-replicate}
use Rattle.cell_calc_modes.specs.parts.ModeLanes.{cell_denoted_by_key, number_in_lane}
use Rattle.cell_calc_modes.proofs.ModeLanes.{counted_few, counted_more, counted_all, chosen_long}
use Rattle.cell_calc_modes.proofs.mode_lanes.occurrences.Goals as goal

pub loop-i-init : goal.loop-i-init
loop-i-init c =
    record {
      long = refl;
      each = λ k lt. get_or-replicate 16 k 1 0 lt;
    }

pub increment_count_in_equal_lanes-count-requires : goal.increment_count_in_equal_lanes-count-requires
increment_count_in_equal_lanes-count-requires c = λ k lt.
    counted_few k c.loop-i.i c.args.before.now (cell_denoted_by_key (number_in_lane k c.args.key))
    (number_in_lane k c.loop-i.count)
    c.loop-i-test.true c.requires (c.loop-i.invariant.each k lt)

pub loop-i-preserved : goal.loop-i-preserved
loop-i-preserved c =
    record {
      long = c.increment_count_in_equal_lanes-count.ensures.long;
      each = λ k lt. counted_more k c.loop-i.i c.args.before.now c.args.key c.vector_at.result
          (number_in_lane k c.loop-i.count) _
          c.loop-i-test.true c.vector_at.ensures (c.loop-i.invariant.each k lt)
          (c.increment_count_in_equal_lanes-count.ensures.each k lt);
    }

pub returns-clause-long : goal.returns-clause-long
returns-clause-long c =
    chosen_long eqb c.args.key (replicate 16 0) (replicate 16 0) c.loop-i.count c.fits-key.0 refl refl
    c.loop-i.invariant.long

pub returns-clause-each : goal.returns-clause-each
returns-clause-each c = λ k lt.
    counted_all k c.loop-i.i c.args.before.now c.args.key c.loop-i.count c.fits-key.0 c.loop-i.invariant.long lt
    c.loop-i-test.false (c.loop-i.invariant.each k lt)
