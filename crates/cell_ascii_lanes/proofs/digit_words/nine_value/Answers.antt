use Rattle.std.proofs.Common.{ℕ, ◌≡◌, ◌+◌, ◌-◌, ◌*◌, ◌∙◌, ap, sym, arith, take, Some}
use Rattle.std.specs.Prelude.{slice_index_or}
use Rattle.cell_ascii_meaning.specs.EdgeNumbers.{value_if_digits}
use Rattle.cell_ascii_lanes.proofs.DigitLemmas.{nine_digits}
use Rattle.cell_ascii_lanes.proofs.digit_words.nine_value.Goals as goal

pub digits_value-requires-clause-digits : goal.digits_value-requires-clause-digits
digits_value-requires-clause-digits c = c.digits_at.ensures 8 (omega arith) (omega arith)

pub returns : goal.returns
returns c =
    let bytes = c.args.bytes.now in
    let size : c.args.size ≡ 9 = omega arith in
    let front = c.digits_at.ensures 8 (omega arith) (omega arith) in
    let last = slice_index_or bytes 8 0 in
    ap (λ (n : ℕ). value_if_digits (take n bytes)) size
    ∙ nine_digits bytes c.requires front (sym c.is_digit.ensures ∙ c.if-not-is_digit.false)
    ∙ ap (λ (n : ℕ). Some (n * 10 + (last - 48))) (sym c.digits_value.ensures.value)
