-- Texts without the blanks at their ends.
use Rattle.std.proofs.Common.{◌≡◌, ℕ, ◌+◌, ◌-◌, ◌<◌, Bool, true, false, List, [], ◌∷◌, ◌++◌, length, take, get_or, refl, ap, sym, ◌∙◌, arith}
use Rattle.std.specs.Prelude.{◌&&◌}
use Rattle.std.specs.List.{list_all}
use Rattle.std.proofs.lemmas.List.{take_more}
use Rattle.cell_core_values.specs.Blanks.{is_blank, without_trailing_blanks}

-- removing blanks at the end also removes an appended blank
pub without_trailing_blanks-blank : (xs : List ℕ) (b : ℕ) → is_blank b ≡ true
    → without_trailing_blanks (xs ++ b ∷ []) ≡ without_trailing_blanks xs
without_trailing_blanks-blank [] b e = rw e refl
without_trailing_blanks-blank (x ∷ xs) b e = rw (list_all-snoc xs b e, without_trailing_blanks-blank xs b e) refl
  where
    list_all-snoc : (ys : List ℕ) (c : ℕ) → is_blank c ≡ true → list_all is_blank (ys ++ c ∷ []) ≡ list_all is_blank ys
    list_all-snoc [] c f = rw f refl
    list_all-snoc (y ∷ ys) c f = rw (list_all-snoc ys c f) refl

-- a text that ends in another byte is left unchanged
pub without_trailing_blanks-other : (xs : List ℕ) (b : ℕ) → is_blank b ≡ false
    → without_trailing_blanks (xs ++ b ∷ []) ≡ xs ++ b ∷ []
without_trailing_blanks-other [] b e = rw e refl
without_trailing_blanks-other (x ∷ xs) b e = rw (
  list_all-no xs b e,
  and_no
      (is_blank x),
  without_trailing_blanks-other xs b e,
) refl
  where
    and_no : (t : Bool) → (t && false) ≡ false
    and_no true = refl
    and_no false = refl

    list_all-no : (ys : List ℕ) (c : ℕ) → is_blank c ≡ false → list_all is_blank (ys ++ c ∷ []) ≡ false
    list_all-no [] c f = rw f refl
    list_all-no (y ∷ ys) c f = rw (list_all-no ys c f) (and_no (is_blank y))

-- if the last byte is a blank, dropping it does not change the result
pub without_trailing_blanks-step : (w : List ℕ) (n : ℕ) → 0 < n → n < length w + 1
    → is_blank (get_or w (n - 1) 0) ≡ true → without_trailing_blanks (take (n - 1) w)
    ≡ without_trailing_blanks (take n w)
without_trailing_blanks-step w n some h e =
    let more : n ≡ (n - 1) + 1 = omega arith in
    let step : take ((n - 1) + 1) w ≡ take (n - 1) w ++ get_or w (n - 1) 0 ∷ [] = take_more w (n - 1) 0 (omega arith) in
    sym (ap (λ m. without_trailing_blanks (take m w)) more ∙ ap without_trailing_blanks step
    ∙ without_trailing_blanks-blank (take (n - 1) w) (get_or w (n - 1) 0) e)

-- if the last byte is not a blank, the text is already the result
pub without_trailing_blanks-stop : (w : List ℕ) (n : ℕ) → 0 < n → n < length w + 1
    → is_blank (get_or w (n - 1) 0) ≡ false → take n w ≡ without_trailing_blanks (take n w)
without_trailing_blanks-stop w n some h e =
    let more : n ≡ (n - 1) + 1 = omega arith in
    let step : take ((n - 1) + 1) w ≡ take (n - 1) w ++ get_or w (n - 1) 0 ∷ [] = take_more w (n - 1) 0 (omega arith) in
    let whole : take n w ≡ take (n - 1) w ++ get_or w (n - 1) 0 ∷ [] = ap (λ m. take m w) more ∙ step in
    whole ∙ sym (ap without_trailing_blanks whole ∙ without_trailing_blanks-other (take (n - 1) w)
    (get_or w (n - 1) 0) e)
