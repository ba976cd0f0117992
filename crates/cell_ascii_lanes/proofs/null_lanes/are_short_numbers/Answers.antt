use Rattle.std.proofs.Common.{◌≡◌, ℕ, Bool, true, false, not, eqb, refl}
use Rattle.std.proofs.lemmas.Bool.{eqb-true}
use Rattle.cell_ascii_lanes.proofs.NullBitLemmas.{short_are, two_only}
use Rattle.cell_ascii_lanes.proofs.null_lanes.are_short_numbers.Goals as goal

is_none : (n : ℕ) → not (eqb n 0) ≡ false → n ≡ 0
is_none n e = by (eqb n 0) refl e
  where
    by : (b : Bool) → eqb n 0 ≡ b → not b ≡ false → n ≡ 0
    by true o h = eqb-true n 0 o
    by false o h = cc

pub returns-clause-short : goal.returns-clause-short
returns-clause-short c = λ short.
    short_are c.args.blanks c.args.digits c.args.marked c.following.result c.following-second.result
    c.following-third.result c.following-fourth.result
    c.ranges.blanks.fits c.ranges.digits.fits c.following.ensures.each c.following-second.ensures.each
    c.following-third.ensures.each c.following-fourth.ensures.each
    (eqb-true _ 0 short)

pub returns-clause-two : goal.returns-clause-two
returns-clause-two c = λ two.
    two_only c.args.blanks c.args.digits c.args.marked c.following.result c.following-second.result
    c.following-third.result c.following-fourth.result
    c.ranges.blanks.fits c.ranges.digits.fits c.following.ensures.each c.following-second.ensures.each
    c.following-third.ensures.each c.following-fourth.ensures.each
    (is_none c.following-third.result two)
