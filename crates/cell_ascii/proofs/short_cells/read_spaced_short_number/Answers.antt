use Rattle.std.proofs.Common.{◌≡◌, ◌<◌, ◌≤◌, ◌+◌, ◌∷◌, ◌∙◌, ap, sym, arith, rules, drop, length, length-drop, List, ℕ, ℤ, pos, Some, w64, to_z, of_z}
use Rattle.std.specs.Prelude.{slice_index_or}
use Rattle.std.proofs.lemmas.Int.{to_z_pos}
use Rattle.cell_ascii.specs.BufferedCells.{BytesStartWithNumber}
use Rattle.cell_ascii.proofs.BufferedLemmas.{front_space, front_minus, holds_positive, holds_negative, positive, negative, numeral_below}
use Rattle.cell_ascii.proofs.short_cells.read_spaced_short_number.Goals as goal

-- the bytes after a space, and the bytes after a space and a minus
abbrev after_space : List ℕ → List ℕ
after_space buffered = slice_index_or buffered 1 0 ∷ slice_index_or buffered 2 0 ∷ slice_index_or buffered 3 0 ∷ slice_index_or buffered 4 0 ∷ drop 5 buffered

abbrev after_minus : List ℕ → List ℕ
after_minus buffered = slice_index_or buffered 2 0 ∷ slice_index_or buffered 3 0 ∷ slice_index_or buffered 4 0 ∷ slice_index_or buffered 5 0 ∷ drop 6 buffered

-- the digits and the bytes before them are buffered
within-space : (buffered : List ℕ) (value n : ℕ) → 6 ≤ length buffered → BytesStartWithNumber (after_space buffered) value n → (0 < n + 1) × (n + 1 ≤ length buffered)
within-space buffered value n some is = (omega arith, omega (arith, is.within, length-drop 5 buffered))

within-minus : (buffered : List ℕ) (value n : ℕ) → 6 ≤ length buffered → BytesStartWithNumber (after_minus buffered) value n → (0 < n + 2) × (n + 2 ≤ length buffered)
within-minus buffered value n some is = (omega arith, omega (arith, is.within, length-drop 6 buffered))

pub returns-then-a-eq45-clause-word : goal.returns-then-a-eq45-clause-word
returns-then-a-eq45-clause-word c =
    let buffered = c.args.buffered.now in
    let first : slice_index_or buffered 0 0 ≡ 32 = search rules in
    let second : slice_index_or buffered 1 0 ≡ 45 = search rules in
    holds_negative buffered (after_minus buffered) c.in_ok-value.value c.in_ok-value.n (front_minus buffered c.in-32.len_at_least first second) (c.in_ok-value.ensures (drop 6 buffered))

pub returns-then-a-eq45-clause-number : goal.returns-then-a-eq45-clause-number
returns-then-a-eq45-clause-number c =
    let buffered = c.args.buffered.now in
    let first : slice_index_or buffered 0 0 ≡ 32 = search rules in
    let second : slice_index_or buffered 1 0 ≡ 45 = search rules in
    let same : to_z w64 (of_z w64 c.negated_value.result) ≡ c.negated_value.result = search rules in
    negative buffered (after_minus buffered) c.in_ok-value.value c.in_ok-value.n (front_minus buffered c.in-32.len_at_least first second) (c.in_ok-value.ensures (drop 6 buffered)) ∙ ap (λ (z : ℤ). Some z) (sym c.negated_value.ensures ∙ sym same)

pub returns-clause-word : goal.returns-clause-word
returns-clause-word c =
    let buffered = c.args.buffered.now in
    let first : slice_index_or buffered 0 0 ≡ 32 = search rules in
    holds_positive buffered (after_space buffered) c.in_ok-value-2.value c.in_ok-value-2.n (front_space buffered c.in-32.len_at_least first) (c.in_ok-value-2.ensures (drop 5 buffered))

pub returns-clause-number : goal.returns-clause-number
returns-clause-number c =
    let buffered = c.args.buffered.now in
    let first : slice_index_or buffered 0 0 ≡ 32 = search rules in
    let numeral = c.in_ok-value-2.ensures (drop 5 buffered) in
    let value = c.in_ok-value-2.value in
    let same : to_z w64 value ≡ pos value = to_z_pos w64 value (numeral_below (after_space buffered) value c.in_ok-value-2.n numeral) in
    positive buffered (after_space buffered) value c.in_ok-value-2.n (front_space buffered c.in-32.len_at_least first) numeral ∙ ap (λ (z : ℤ). Some z) (sym same)

pub returns-then-a-eq45-clause-within : goal.returns-then-a-eq45-clause-within
returns-then-a-eq45-clause-within c =
    let buffered = c.args.buffered.now in
    within-minus buffered c.in_ok-value.value c.in_ok-value.n c.in-32.len_at_least (c.in_ok-value.ensures (drop 6 buffered))

pub returns-clause-within : goal.returns-clause-within
returns-clause-within c =
    let buffered = c.args.buffered.now in
    within-space buffered c.in_ok-value-2.value c.in_ok-value-2.n c.in-32.len_at_least (c.in_ok-value-2.ensures (drop 5 buffered))
