use Rattle.std.proofs.Common.{arith}
use Rattle.std.proofs.lemmas.Int.{ints, clamps}
use Rattle.cell_calc_categories.proofs.span.CategoryInterval.with.Goals as goal

pub returns-in-Some-clause-span : goal.returns-in-Some-clause-span
returns-in-Some-clause-span c = record {
  below = omega (arith, ints, clamps, c.min.ensures.value, c.in-Some.ensures.range);
  zero = omega (arith, ints, clamps, c.min.ensures.value);
  bytes = omega (arith, ints, clamps, c.max.ensures.value);
  above = omega (arith, ints, clamps, c.max.ensures.value);
}
