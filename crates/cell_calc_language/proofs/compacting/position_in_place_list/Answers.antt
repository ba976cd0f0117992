use Rattle.std.proofs.Common.{arith}
use Rattle.cell_calc_language.proofs.Index.{index_first, index_none}
use Rattle.cell_calc_language.proofs.compacting.position_in_place_list.Goals as goal

pub returns-then-known-place : goal.returns-then-known-place
returns-then-known-place c = index_first c.args.places.now c.loop-k.k c.args.place c.loop-k-test.true c.if-known-place.true c.loop-k.invariant

pub returns : goal.returns
returns c = index_none c.args.places.now c.args.place (λ j lt. c.loop-k.invariant j (omega (arith, c.loop-k-test.false, lt)))
