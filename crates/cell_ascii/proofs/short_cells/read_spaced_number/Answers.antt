use Rattle.std.proofs.Common.{◌≡◌, ◌≤◌, ◌-◌, ◌∷◌, ◌∙◌, ap, sym, rules, length, take, drop, List, ℕ, ℤ, pos, Some, w64, to_z, of_z}
use Rattle.std.specs.Prelude.{slice_index_or}
use Rattle.std.proofs.lemmas.Int.{to_z_pos}
use Rattle.cell_ascii.proofs.BufferedLemmas.{first_rest, holds_positive, holds_negative, positive, negative, numeral_below}
use Rattle.cell_ascii.proofs.short_cells.read_spaced_number.Goals as goal

pub returns-in-45-clause-word : goal.returns-in-45-clause-word
returns-in-45-clause-word c =
    let buffered = c.args.buffered.now in
    let rest = take (length buffered - 1) (drop 1 buffered) in
    let some : 1 ≤ length buffered = c.in-32.len_at_least in
    let more : 1 ≤ length rest = c.in-45.len_at_least in
    let first : slice_index_or buffered 0 0 ≡ 32 = search rules in
    let second : slice_index_or rest 0 0 ≡ 45 = search rules in
    let whole = first_rest buffered 32 some first ∙ ap (λ (t : List ℕ). 32 ∷ t) (first_rest rest 45 more second) in
    holds_negative buffered (take (length rest - 1) (drop 1 rest)) c.in_ok-value.value c.in_ok-value.n whole c.in_ok-value.ensures

pub returns-in-45-clause-number : goal.returns-in-45-clause-number
returns-in-45-clause-number c =
    let buffered = c.args.buffered.now in
    let rest = take (length buffered - 1) (drop 1 buffered) in
    let some : 1 ≤ length buffered = c.in-32.len_at_least in
    let more : 1 ≤ length rest = c.in-45.len_at_least in
    let first : slice_index_or buffered 0 0 ≡ 32 = search rules in
    let second : slice_index_or rest 0 0 ≡ 45 = search rules in
    let whole = first_rest buffered 32 some first ∙ ap (λ (t : List ℕ). 32 ∷ t) (first_rest rest 45 more second) in
    let same : to_z w64 (of_z w64 c.negated_value.result) ≡ c.negated_value.result = search rules in
    negative buffered (take (length rest - 1) (drop 1 rest)) c.in_ok-value.value c.in_ok-value.n whole c.in_ok-value.ensures ∙ ap (λ (z : ℤ). Some z) (sym c.negated_value.ensures ∙ sym same)

pub returns-clause-word : goal.returns-clause-word
returns-clause-word c =
    let buffered = c.args.buffered.now in
    let some : 1 ≤ length buffered = c.in-32.len_at_least in
    let first : slice_index_or buffered 0 0 ≡ 32 = search rules in
    holds_positive buffered (take (length buffered - 1) (drop 1 buffered)) c.in_ok-value-2.value c.in_ok-value-2.n (first_rest buffered 32 some first) c.in_ok-value-2.ensures

pub returns-clause-number : goal.returns-clause-number
returns-clause-number c =
    let buffered = c.args.buffered.now in
    let rest = take (length buffered - 1) (drop 1 buffered) in
    let some : 1 ≤ length buffered = c.in-32.len_at_least in
    let first : slice_index_or buffered 0 0 ≡ 32 = search rules in
    let value = c.in_ok-value-2.value in
    let same : to_z w64 value ≡ pos value = to_z_pos w64 value (numeral_below rest value c.in_ok-value-2.n c.in_ok-value-2.ensures) in
    positive buffered rest value c.in_ok-value-2.n (first_rest buffered 32 some first) c.in_ok-value-2.ensures ∙ ap (λ (z : ℤ). Some z) (sym same)
