-- A line is split at its first equals sign into a left and a right side.
use Rattle.std.proofs.Common.{◌≡◌, ℕ, suc, ◌+◌, ◌<◌, Bool, true, false, cond, List, [], ◌∷◌, ◌++◌}
use Rattle.std.proofs.Common.{length, take, drop, get_or, Option, Some, None, codes, refl, ap, sym, ◌∙◌, arith, length-append}
use Rattle.std.specs.Prelude.{nat_lt, ◌||◌}
use Rattle.std.specs.List.{position_or_len, before_first, after_first, list_any}
use Rattle.std.proofs.lemmas.List.Sums.{split_at_first, passes_at_first}
use Rattle.std.proofs.lemmas.Bool.{ltb-true, eqb-true}
use Rattle.std.proofs.lemmas.Bool.Decides.{nat_tests}
use Rattle.std.proofs.Math.Seq.{take-append_seam, drop-append-add}
use Rattle.cell_core_values.specs.Words.{is_equals_sign, texts_around_equals_sign}

either-right : (a b : Bool) → (a || b) ≡ false → b ≡ false
either-right true b e = cc
either-right false b e = e

either-left : (a b : Bool) → (a || b) ≡ false → a ≡ false
either-left true b e = cc
either-left false b e = refl

before-free : (line : List ℕ) → list_any is_equals_sign (before_first is_equals_sign line) ≡ false
before-free [] = refl
before-free (b ∷ bs) = by (is_equals_sign b) refl (before-free bs)
  where
    by : (is : Bool) → is_equals_sign b ≡ is → list_any is_equals_sign (before_first is_equals_sign bs) ≡ false
        → list_any is_equals_sign (before_first is_equals_sign (b ∷ bs)) ≡ false
    by true e rest = rw e refl
    by false e rest =
        let count : position_or_len is_equals_sign (b ∷ bs) ≡ suc (position_or_len is_equals_sign bs) = rw e
        (omega arith) in
        ap (λ n. list_any is_equals_sign (take n (b ∷ bs))) count
        ∙ ap (λ t. t || list_any is_equals_sign (before_first is_equals_sign bs)) e ∙ rest

-- a line read as two sides is its left side, an equals sign and its right side
pub sides-sound : (line left right : List ℕ) → texts_around_equals_sign line ≡ Some (left, right)
    → (line ≡ left ++ (codes "=" ++ right)) × (list_any is_equals_sign left ≡ false)
sides-sound line left right e = by (nat_lt (position_or_len is_equals_sign line) (length line)) refl e
  where
    by : (inside : Bool) → nat_lt (position_or_len is_equals_sign line) (length line) ≡ inside
        → cond {A = Option (List ℕ
        × List ℕ)} inside (Some (before_first is_equals_sign line, after_first is_equals_sign line)) None
        ≡ Some (left, right)
        → (line ≡ left ++ (codes "=" ++ right)) × (list_any is_equals_sign left ≡ false)
    by false i h = cc
    by true i h =
        let within : position_or_len is_equals_sign line < length line = ltb-true _ _ i in
        let sign : get_or line (position_or_len is_equals_sign line) 0 ≡ 61 =
        eqb-true _ _ (passes_at_first is_equals_sign line 0 within) in
        let same : ◌≡◌ {A = List ℕ × List ℕ} (before_first is_equals_sign line, after_first is_equals_sign line)
        (left, right) =
        cc in
        let first : before_first is_equals_sign line ≡ left = ap (λ p. p.0) same in
        let second : after_first is_equals_sign line ≡ right = ap (λ p. p.1) same in (
          split_at_first is_equals_sign line 0 within
              ∙ (λ i. first i ++ (sign i ∷ second i)),
          ap (list_any is_equals_sign) (sym first) ∙ before-free line,
        )

sign-at : (left right : List ℕ) → list_any is_equals_sign left ≡ false
    → position_or_len is_equals_sign (left ++ (codes "=" ++ right)) ≡ length left
sign-at [] right free = refl
sign-at (b ∷ left) right free =
    let other : is_equals_sign b ≡ false = either-left (is_equals_sign b) (list_any is_equals_sign left) free in
    let rest = sign-at left right (either-right (is_equals_sign b) (list_any is_equals_sign left) free) in
    rw (other, rest) (omega arith)

-- a line of a left side without an equals sign, the sign and a right side is read as these two sides
pub sides-complete : (left right : List ℕ) → list_any is_equals_sign left ≡ false
    → texts_around_equals_sign (left ++ (codes "=" ++ right)) ≡ Some (left, right)
sides-complete left right free =
    let line = left ++ (codes "=" ++ right) in
    let at : position_or_len is_equals_sign line ≡ length left = sign-at left right free in
    let inside : nat_lt (length left) (length line) ≡ true = let l = length-append left (codes "=" ++ right) in
    grind (arith, nat_tests) in
    let first : before_first is_equals_sign line ≡ left = ap (λ n. take n line) at
    ∙ take-append_seam left (codes "=" ++ right) in
    let second : after_first is_equals_sign line ≡ right = ap (λ n. drop (n + 1) line) at
    ∙ drop-append-add left (codes "=" ++ right) 1 in
    ap (λ n. cond {A = Option (List ℕ
    × List ℕ)} (nat_lt n (length line)) (Some (before_first is_equals_sign line, after_first is_equals_sign line))
    None) at
    ∙ ap (λ t. cond {A = Option (List ℕ
    × List ℕ)} t (Some (before_first is_equals_sign line, after_first is_equals_sign line)) None) inside
    ∙ (λ i. Some (first i, second i))
