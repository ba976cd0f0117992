-- The parts before and after the first byte that passes a test.
use Rattle.std.proofs.Common.{◌≡◌, ℕ, ◌+◌, ◌-◌, ◌<◌, Bool, true, false, List, length, take, drop, get_or, Some, None, refl, arith, take_all, length-drop}
use Rattle.std.specs.Prelude.{nat_lt}
use Rattle.std.specs.List.{position_or_len, before_first, after_first}
use Rattle.std.proofs.lemmas.List.{drop_all}
use Rattle.std.proofs.lemmas.List.Sums.{position_or_len_is}
use Rattle.std.proofs.lemmas.Bool.Decides.{nat_tests}
use Rattle.cell_core_values.specs.Words.{is_equals_sign, texts_around_equals_sign}

-- a list is cut at place i if the first byte that passes is there
pub parts-at : (p : ℕ → Bool) (w : List ℕ) (i : ℕ) → i < length w → ((k : ℕ) → k < i → p (get_or w k 0) ≡ false) → p (get_or w i 0) ≡ true
    → (take i w ≡ before_first p w) × (take (length w - (i + 1)) (drop (i + 1) w) ≡ after_first p w)
parts-at p w i h before here =
    let at : position_or_len p w ≡ i = position_or_len_is p w i 0 (omega arith) before (λ _. here) in
    let rest : take (length w - (i + 1)) (drop (i + 1) w) ≡ drop (i + 1) w = take_all (length w - (i + 1)) (drop (i + 1) w) (omega (arith, length-drop (i + 1) w)) in
    (rw at refl, rw (rest, at) refl)

-- if no byte passes, the whole list is before the cut
pub parts-none : (p : ℕ → Bool) (w : List ℕ) → ((k : ℕ) → k < length w → p (get_or w k 0) ≡ false)
    → (w ≡ before_first p w) × (take (length w - length w) (drop (length w) w) ≡ after_first p w)
parts-none p w none =
    let at : position_or_len p w ≡ length w = position_or_len_is p w (length w) 0 (omega arith) none (λ h. absurd (omega arith)) in
    let no : length w - length w ≡ 0 = omega arith in
    (rw (at, take_all (length w) w (omega arith)) refl, rw (no, at, drop_all (length w + 1) w (omega arith)) refl)

-- if the first equals sign is at place i, the sides are the bytes before and after it
pub pair_of-at : (w : List ℕ) (i : ℕ) → i < length w → ((k : ℕ) → k < i → is_equals_sign (get_or w k 0) ≡ false)
    → is_equals_sign (get_or w i 0) ≡ true
    → Some (take i w, take (length w - (i + 1)) (drop (i + 1) w)) ≡ texts_around_equals_sign w
pair_of-at w i h before here =
    let at : position_or_len is_equals_sign w ≡ i = position_or_len_is is_equals_sign w i 0 (omega arith) before
    (λ _. here) in
    let rest : take (length w - (i + 1)) (drop (i + 1) w) ≡ drop (i + 1) w = take_all (length w - (i + 1)) (drop (i + 1) w) (omega (arith, length-drop (i + 1) w)) in
    let within : nat_lt i (length w) ≡ true = grind (arith, nat_tests) in
    rw (rest, at, within) refl

-- a line without an equals sign has no sides
pub pair_of-none : (w : List ℕ) → ((k : ℕ) → k < length w → is_equals_sign (get_or w k 0) ≡ false)
    → None ≡ texts_around_equals_sign w
pair_of-none w none =
    let at : position_or_len is_equals_sign w ≡ length w = position_or_len_is is_equals_sign w (length w) 0
    (omega arith) none (λ h. absurd (omega arith)) in
    let past : nat_lt (length w) (length w) ≡ false = grind (arith, nat_tests) in
    rw (at, past) refl
