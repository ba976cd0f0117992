use Rattle.std.proofs.Common.{◌≡◌, ◌+◌, ◌-◌, ◌/◌, ◌^◌, ◌<◌, ℕ, arith, ap, ◌∙◌, w64}
use Rattle.std.specs.Int.{bit_at}
use Rattle.std.proofs.lemmas.Bool.{eqb-true}
use Rattle.std.proofs.lemmas.Nat.Bits.{bit_at-zero, bit_at_and, bit_at_not}
use Rattle.cell_ascii_lanes.proofs.ByteValueLemmas.{all_fit, value_at_two, value_at_three}
use Rattle.cell_ascii_lanes.proofs.ByteBitLemmas.{shr_one}
use Rattle.cell_ascii_lanes.proofs.null_lanes.number_values.Goals as goal
use lib.Bits.{bit_and}

pub returns-then-not-has_three : goal.returns-then-not-has_three
returns-then-not-has_three c = λ _ at n few lt two none digits word blank free.
    let bytes = c.args.bytes in
    value_at_two bytes c.fits-bytes.0 (all_fit bytes c.fits-bytes.1) c.values_of_two_digit_words.result
    c.values_of_two_digit_words.ensures at n
    (two c.if-not-has_three.true) (omega arith) none digits

-- no lane is 255 at the end of a word before an unmarked blank
not_large : (large blanks marked p : ℕ) → blanks < 2 ^ 64 → marked < 2 ^ 64 → p + 1 < 64
    → bit_and (bit_and large (18446744073709551615 - blanks)) (bit_and blanks (18446744073709551615 - marked) / 2) ≡ 0
    → bit_at blanks p ≡ 0 → bit_at blanks (p + 1) ≡ 1 → bit_at marked (p + 1) ≡ 0 → bit_at large p ≡ 0
not_large large blanks marked p B M lt none word blank free =
    let zero = ap (λ n. bit_at n p) none ∙ bit_at-zero p in
    let all = bit_at_and (bit_and large (18446744073709551615 - blanks))
    (bit_and blanks (18446744073709551615 - marked) / 2) p in
    let first = bit_at_and large (18446744073709551615 - blanks) p in
    let here = bit_at_not w64 blanks p B (omega arith) in
    let next = shr_one (bit_and blanks (18446744073709551615 - marked)) p
    ∙ bit_at_and blanks (18446744073709551615 - marked) (p + 1) in
    let there = bit_at_not w64 marked (p + 1) M lt in
    omega (arith, zero, all, first, here, next, there, word, blank, free)

pub returns : goal.returns
returns c = λ none at n few lt two first digits word blank free.
    let bytes = c.args.bytes in
    let values = c.values_of_three_digit_words-values.result in
    let p = at + 1 + n in
    let off = not_large c.largest_mask-large.result c.args.blanks c.args.marked p c.ranges.blanks.fits
    c.ranges.marked.fits lt (eqb-true _ 0 none) word blank free in
    let low = c.largest_mask-large.ensures p (omega arith) off in
    value_at_three bytes c.fits-bytes.0 (all_fit bytes c.fits-bytes.1) values
    c.values_of_three_digit_words-values.ensures at n few
    (omega arith) first digits low
