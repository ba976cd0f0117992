-- The names before the place of a name.
use Rattle.std.proofs.Common.{◌≡◌, ℕ, zero, suc, ◌+◌, Bool, true, false, cond, List, [], ◌∷◌, ◌++◌, take, slice_get, Some, None, refl, ap, ◌∙◌, arith}
use Rattle.std.specs.List.{position_from}
use Rattle.std.proofs.lemmas.List.{take_more}
use Rattle.std.proofs.lemmas.Option.{slice_get_within, get_or_from_slice_get}
use Rattle.cell_core_values.specs.Name.{place_of_name}

-- a name is not among those before its first place
position_from-before : {K : Type 0} (t : K → Bool) (i : ℕ) (xs : List K) (p : ℕ) → position_from t i xs ≡ Some (i + p) → position_from t i (take p xs) ≡ None
position_from-before t i [] p e = cc
position_from-before t i (x ∷ xs) zero e = refl
position_from-before {K} t i (x ∷ xs) (suc p) e = by (t x) (λ f. position_from-before t (i + 1) xs p f) e
  where
    by : (b : Bool) → (position_from t (i + 1) xs ≡ Some (i + 1 + p) → position_from t (i + 1) (take p xs) ≡ None) → cond b (Some i) (position_from t (i + 1) xs) ≡ Some (i + suc p) → cond b (Some i) (position_from t (i + 1) (take p xs)) ≡ None
    by true more e = let q : i ≡ i + suc p = cc in absurd (omega (arith, q))
    by false more e = let q : i + suc p ≡ i + 1 + p = omega arith in more (e ∙ ap Some q)

pub place_of-before : (name : List ℕ) (known : List (List ℕ)) (p : ℕ) → place_of_name name known ≡ Some p → place_of_name name (take p known) ≡ None
place_of-before name known p e = let q : p ≡ 0 + p = omega arith in position_from-before _ 0 known p (e ∙ ap Some q)

-- taking one more element appends that element
pub take-slice_get : {A : Type 0} (xs : List A) (i : ℕ) (x : A) → slice_get xs i ≡ Some x → take (i + 1) xs ≡ take i xs ++ x ∷ []
take-slice_get xs i x e = take_more xs i x (slice_get_within xs i x e) ∙ ap (λ y. take i xs ++ y ∷ []) (get_or_from_slice_get xs i x x e)
