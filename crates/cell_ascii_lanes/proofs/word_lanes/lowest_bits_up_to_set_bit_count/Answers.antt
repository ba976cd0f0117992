use Rattle.std.proofs.Common.{◌≡◌, ◌<◌, ◌-◌, ◌*◌, ◌%◌, ◌^◌, ℕ, arith, ap, ◌∙◌}
use Rattle.std.proofs.lemmas.Nat.{one_shl, and_mask}
use Rattle.std.specs.Int.RustNames.{count_ones}
use Rattle.cell_ascii_lanes.proofs.word_lanes.lowest_bits_up_to_set_bit_count.Goals as goal
use lib.Bits.{bit_and}

pub returns-then-bits-most : goal.returns-then-bits-most
returns-then-bits-most c = record {
  place = 64;
  within = omega arith;
  is = omega (arith, c.ranges.bits.fits);
  few = omega (arith, c.if-bits-most.true);
}

pub returns : goal.returns
returns c =
    let n = c.place_stepped_if_few_bits_below-place-6.result in
    let within : n < 64 = omega (arith, c.place_stepped_if_few_bits_below-place-6.ensures.within, c.place_stepped_if_few_bits_below-place-5.ensures.within, c.place_stepped_if_few_bits_below-place-4.ensures.within, c.place_stepped_if_few_bits_below-place-3.ensures.within, c.place_stepped_if_few_bits_below-place-2.ensures.within, c.place_stepped_if_few_bits_below-place.ensures.within) in
    let is : bit_and c.args.bits (1 * 2 ^ n % 18446744073709551616 - 1) ≡ c.args.bits % 2 ^ n = ap (λ (k : ℕ). bit_and c.args.bits (k - 1)) (one_shl n 64 within) ∙ and_mask c.args.bits n in
    record {
      place = n;
      within = omega (arith, within);
      is = is;
      few = omega (arith, ap count_ones is, c.place_stepped_if_few_bits_below-place-6.ensures.few);
    }
