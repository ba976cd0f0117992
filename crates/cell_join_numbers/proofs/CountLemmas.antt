-- The number of list elements that pass a test.
use Rattle.std.proofs.Common.{◌≡◌, ℕ, ◌+◌, List, ◌∷◌, Bool, true, false, refl, sym}
use Rattle.std.specs.Prelude.{count_by, cond}
use Rattle.std.proofs.lemmas.List.Sums.{sum_by-cons}

abbrev pub one-if : Bool → ℕ
one-if b = cond b 1 0

pub count_by-cons : {X : Type 0} (t : X → Bool) (x : X) (xs : List X) → count_by t (x ∷ xs) ≡ one-if (t x) + count_by t xs
count_by-cons t x xs = sum_by-cons (λ y. one-if (t y)) x xs

pub same-answer : (a b : Bool) → (a ≡ true → b ≡ true) → (b ≡ true → a ≡ true) → a ≡ b
same-answer true b there back = sym (there refl)
same-answer false true there back = back refl
same-answer false false there back = refl
