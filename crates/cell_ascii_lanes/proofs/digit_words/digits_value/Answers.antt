use Rattle.std.proofs.Common.{ℕ, ◌≤◌, ◌∙◌, ap, arith, length, length-take, take}
use Rattle.cell_ascii_lanes.proofs.DigitLemmas.{worth, nibbles, front_value, few_below}
use Rattle.cell_ascii_lanes.proofs.digit_words.digits_value.Goals as goal

pub returns : goal.returns
returns c =
    let size = c.args.size in
    let bytes = c.args.bytes.now in
    let within : size ≤ length bytes = omega (arith, c.requires.few, c.requires.buffered) in
    let few : length (take size bytes) ≤ 8 = omega (arith, length-take size bytes, c.requires.few) in
    let value =
    ap (λ (n : ℕ). worth (nibbles n)) c.word_key-word.ensures
    ∙ front_value size bytes c.requires.few within c.requires.digits in
    record { value = value; small = rw value (few_below (take size bytes) c.requires.digits few) }
