use Rattle.std.proofs.Common.{arith}
use Rattle.std.proofs.lemmas.Int.{ints}
use Rattle.cell_calc_categories.proofs.span.CategoryInterval.cell.Goals as goal

pub returns-in-Some-clause-at : goal.returns-in-Some-clause-at
returns-in-Some-clause-at c = rw c.in-Some.ensures (omega (arith, ints))

pub returns-in-Some-clause-within : goal.returns-in-Some-clause-within
returns-in-Some-clause-within c = rw c.in-Some.ensures (
  omega (arith, ints),
  omega
      (arith, ints, c.if-category-self.false),
)
