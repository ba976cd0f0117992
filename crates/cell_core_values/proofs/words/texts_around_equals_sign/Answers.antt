use Rattle.std.proofs.Common.{arith, refl}
use Rattle.cell_core_values.proofs.PartLemmas.{pair_of-at, pair_of-none}
use Rattle.cell_core_values.proofs.words.texts_around_equals_sign.Goals as goal

pub returns-then-b-eq61 : goal.returns-then-b-eq61
returns-then-b-eq61 c = pair_of-at c.args.text.now c.loop-i.i (omega arith) c.loop-i.invariant (rw c.if-b-eq61.true refl)

pub returns : goal.returns
returns c = pair_of-none c.args.text.now (λ k h. c.loop-i.invariant k (omega arith))
