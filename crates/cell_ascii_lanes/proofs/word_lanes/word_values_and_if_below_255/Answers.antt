use Rattle.std.proofs.Common.{◌≡◌, ◌<◌, ◌+◌, Bool, true, false, not, arith, refl}
use Rattle.cell_ascii_lanes.proofs.ByteBitLemmas.{not_three}
use Rattle.cell_ascii_lanes.proofs.ByteValueLemmas.{all_fit, values_of_two, values_of_three}
use Rattle.cell_ascii_lanes.proofs.word_lanes.word_values_and_if_below_255.Goals as goal

is_off : (b : Bool) → not b ≡ true → b ≡ false
is_off true e = cc
is_off false e = refl

pub returns-then-words-eq0 : goal.returns-then-words-eq0
returns-then-words-eq0 c = λ _.
    let bytes = c.args.bytes in
    values_of_two bytes c.fits-bytes.0 (all_fit bytes c.fits-bytes.1) c.values_of_two_digit_words.result
    c.values_of_two_digit_words.ensures
    (λ p lt a b d.
    let first : p < 64 = omega arith in
    let second : p + 1 < 64 = omega arith in
    not_three c.args.words c.if-words-eq0.true p lt (c.requires p first a) (c.requires (p + 1) second b) (c.requires (p + 2) lt d))

pub returns : goal.returns
returns c = λ small.
    let bytes = c.args.bytes in
    values_of_three bytes c.fits-bytes.0 (all_fit bytes c.fits-bytes.1) c.values_of_three_digit_words-values.result c.values_of_three_digit_words-values.ensures
    (c.has_digit_value_of_255.ensures (is_off c.has_digit_value_of_255.result small))
