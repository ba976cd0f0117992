-- Names are found at their places, also after another name is appended.
use Rattle.std.proofs.Common.{◌≡◌, ℕ, Bool, true, false, ◌+◌, ◌<◌, List, [], ◌∷◌, ◌++◌, length, Option, Some, None, arith, ap, sym, ◌∙◌, subst, refl, cond}
use Rattle.std.specs.Prelude.{bytes_eq, IfSome}
use Rattle.std.specs.Ordering.{is_eq, nat_cmp, eq_by_cmp}
use Rattle.std.specs.Cmp.Lexicographic.{slice_cmp, nat_list_cmp_total, nat_list_eq_equiv}
use Rattle.std.specs.Cmp.{eq_by_cmp_equiv}
use Rattle.std.specs.List.{position_from}
use Rattle.std.specs.Map.{lookup, KeepsOthers, IsKeyTest, AreApart}
use Rattle.std.proofs.lemmas.Map.Text.{is_eq-slice_cmp}
use Rattle.std.proofs.lemmas.Slice.Eq.{bytes_eq-Decides}
use Rattle.cell_core_values.specs.Name.{place_of_name}
use Rattle.cell_core_values.specs.parts.NamePlaces.{ArePlacesOfNames}
use Rattle.cell_core_values.proofs.NameLemmas.{cond-none}

-- a place that is found is within the list
pub position_from-within : (p : List ℕ → Bool) (i : ℕ) (names : List (List ℕ)) (k : ℕ) → position_from p i names ≡ Some k → k < i + length names
position_from-within p i [] k h = cc
position_from-within p i (x ∷ xs) k h = by (p x) (position_from-within p (i + 1) xs k) h
  where
    by : (b : Bool) → (position_from p (i + 1) xs ≡ Some k → k < i + 1 + length xs) → cond b (Some i) (position_from p (i + 1) xs) ≡ Some k → k < i + length (x ∷ xs)
    by true rest e = let same : i ≡ k = cc in omega (arith, same)
    by false rest e = let inside : k < i + 1 + length xs = rest e in omega (arith, inside)

pub place_of-within : (text : List ℕ) (names : List (List ℕ))
    → IfSome (place_of_name text names) (λ k. k < length names)
place_of-within text names = by (place_of_name text names) (position_from-within (λ n. bytes_eq n text) 0 names)
  where
    by : (place : Option ℕ) → ((k : ℕ) → place ≡ Some k → k < 0 + length names) → IfSome place (λ k. k < length names)
    by None inside = tt
    by (Some k) inside = let lt : k < 0 + length names = inside k refl in omega (arith, lt)

-- if only the last element passes, its place is found
position_from-last : (p : List ℕ → Bool) (i : ℕ) (names : List (List ℕ)) (name : List ℕ) → position_from p i names ≡ None → p name ≡ true → position_from p i (names ++ name ∷ []) ≡ Some (i + length names)
position_from-last p i [] name none here = rw here (ap Some (omega arith))
position_from-last p i (x ∷ xs) name none here =
    let parts = cond-none (p x) i (position_from p (i + 1) xs) none in
    rw parts.0 (position_from-last p (i + 1) xs name parts.1 here ∙ ap Some (omega arith))

-- a last element that does not pass changes nothing
position_from-other : (p : List ℕ → Bool) (i : ℕ) (names : List (List ℕ)) (name : List ℕ) → p name ≡ false → position_from p i (names ++ name ∷ []) ≡ position_from p i names
position_from-other p i [] name other = rw other refl
position_from-other p i (x ∷ xs) name other = ap (cond (p x) (Some i)) (position_from-other p (i + 1) xs name other)

module _ {K : Type 0} (bytes : K → List ℕ) where
  keeps : (test : K → Bool) (old new : List (K × ℕ)) → KeepsOthers (eq_by_cmp (λ x y. slice_cmp nat_cmp (bytes x) (bytes y))) test old new
      → (other : K → Bool) → IsKeyTest (eq_by_cmp (λ x y. slice_cmp nat_cmp (bytes x) (bytes y))) other → AreApart test other → lookup other new ≡ lookup other old
  unfolding KeepsOthers
  keeps test old new h = h

  apart : (name text key : List ℕ) → bytes_eq name text ≡ false → is_eq (slice_cmp nat_cmp name key) ≡ true → is_eq (slice_cmp nat_cmp text key) ≡ false
  apart name text key differ same =
      is_eq-slice_cmp text key ∙ nat_list_eq_equiv.symm text key ∙ sym (nat_list_eq_equiv.congr name key text (sym (is_eq-slice_cmp name key) ∙ same)) ∙ differ

  -- an appended name is found at the last place, and the other names keep their places
  pub ArePlacesOfNames-push : (names : List (List ℕ)) (name : List ℕ) (old new : List (K × ℕ))
      → ArePlacesOfNames bytes names old → place_of_name name names ≡ None
      → lookup (λ key. is_eq (slice_cmp nat_cmp name (bytes key))) new ≡ Some (length names)
      → KeepsOthers (eq_by_cmp (λ x y. slice_cmp nat_cmp (bytes x) (bytes y))) (λ key. is_eq (slice_cmp nat_cmp name (bytes key))) old new
      → ArePlacesOfNames bytes (names ++ name ∷ []) new
  ArePlacesOfNames-push names name old new places none here others text = by (bytes_eq name text) refl
    where
      by : (b : Bool) → bytes_eq name text ≡ b → lookup (λ key. is_eq (slice_cmp nat_cmp text (bytes key))) new
          ≡ place_of_name text (names ++ name ∷ [])
      by true same =
          let e : name ≡ text = (bytes_eq-Decides name text).0 same in
          let last : place_of_name name (names ++ name ∷ []) ≡ Some (0 + length names) = position_from-last
          (λ n. bytes_eq n name) 0 names name none ((bytes_eq-Decides name name).1 refl) in
          subst (λ t. lookup (λ key. is_eq (slice_cmp nat_cmp t (bytes key))) new ≡ place_of_name t (names ++ name
          ∷ [])) e (here ∙ sym (last ∙ ap Some (omega arith)))
      by false differ =
          keeps (λ key. is_eq (slice_cmp nat_cmp name (bytes key))) old new others (λ key. is_eq (slice_cmp nat_cmp text (bytes key)))
          (λ x y. (eq_by_cmp_equiv nat_list_cmp_total).congr text (bytes x) (bytes y)) (λ key. apart name text (bytes key) differ)
          ∙ places text ∙ sym (position_from-other (λ n. bytes_eq n text) 0 names name differ)
