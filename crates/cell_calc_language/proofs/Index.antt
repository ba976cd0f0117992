-- The index of a place in a list of places.
use Rattle.std.proofs.Common.{◌≡◌, ◌<◌, ◌≤◌, ◌+◌, ℕ, zero, suc, List, [], ◌∷◌, ◌++◌, length, get_or, refl, ap, arith, Some, Bool, true, false}
use Rattle.std.specs.Prelude.{◌==◌, if◌then◌else◌, slice_get}
use Rattle.cell_calc_language.specs.parts.TreeSteps.{position_among_places}

-- the first index at which a list contains a place is the place's index
pub index_first : (places : List ℕ) (k i : ℕ) → k < length places → get_or places k 0 ≡ i
    → ((j : ℕ) → j < k → get_or places j 0 ≡ i → ⊥) → k ≡ position_among_places places i
index_first [] k i lt is before = absurd (let no : ⊥ = omega arith in no)
index_first (p ∷ places) zero i lt is before = by_case (p == i) refl
  where
    by_case : (b : Bool) → (p == i) ≡ b → 0 ≡ (if b then 0 else position_among_places places i + 1)
    by_case true h = refl
    by_case false h = grind arith
index_first (p ∷ places) (suc k) i lt is before = by_case (p == i) refl (index_first places k i (omega arith) is (λ j lj e. before (suc j) (omega (arith, lj)) e))
  where
    by_case : (b : Bool) → (p == i) ≡ b → k ≡ position_among_places places i
        → suc k ≡ (if b then 0 else position_among_places places i + 1)
    by_case true h e = absurd (before 0 (omega arith) (grind arith))
    by_case false h e = omega (arith, e)

-- the index of a place that is not in the list is the list's length
pub index_none : (places : List ℕ) (i : ℕ) → ((j : ℕ) → j < length places → get_or places j 0 ≡ i → ⊥) → length places ≡ position_among_places places i
index_none [] i none = refl
index_none (p ∷ places) i none = by_case (p == i) refl (index_none places i (λ j lj e. none (suc j) (omega (arith, lj)) e))
  where
    by_case : (b : Bool) → (p == i) ≡ b → length places ≡ position_among_places places i → length (p ∷ places) ≡ (if b then 0 else position_among_places places i + 1)
    by_case true h e = absurd (none 0 (omega arith) (grind arith))
    by_case false h e = omega (arith, e)

pub index_within : (places : List ℕ) (i : ℕ) → position_among_places places i ≤ length places
index_within [] i = omega arith
index_within (p ∷ places) i = by_case (p == i) (index_within places i)
  where
    by_case : (b : Bool) → position_among_places places i ≤ length places → (if b then 0 else position_among_places places i + 1) ≤ length (p ∷ places)
    by_case true h = omega arith
    by_case false h = omega (arith, h)

-- a place whose index is within the list is the item at that index
pub index_there : (places : List ℕ) (i : ℕ) → position_among_places places i < length places → slice_get places (position_among_places places i) ≡ Some i
index_there [] i lt = absurd (let no : ⊥ = omega arith in no)
index_there (p ∷ places) i lt = by_case (p == i) refl (λ l. index_there places i l) lt
  where
    by_case : (b : Bool) → (p == i) ≡ b → (position_among_places places i < length places → slice_get places (position_among_places places i) ≡ Some i) → (if b then 0 else position_among_places places i + 1) < length (p ∷ places)
        → slice_get (p ∷ places) (if b then 0 else position_among_places places i + 1) ≡ Some i
    by_case true h others l = ap (λ n. Some n) (grind arith)
    by_case false h others l = let e : position_among_places places i + 1 ≡ suc (position_among_places places i) = omega arith in rw e (others (omega (arith, l)))

-- a place keeps its index when others are appended
pub index_kept : (places others : List ℕ) (i : ℕ) → position_among_places places i < length places → position_among_places (places ++ others) i ≡ position_among_places places i
index_kept [] others i lt = absurd (let no : ⊥ = omega arith in no)
index_kept (p ∷ places) others i lt = by_case (p == i) (λ l. index_kept places others i l) lt
  where
    by_case : (b : Bool) → (position_among_places places i < length places → position_among_places (places ++ others) i ≡ position_among_places places i) → (if b then 0 else position_among_places places i + 1) < length (p ∷ places)
        → (if b then 0 else position_among_places (places ++ others) i + 1)
        ≡ (if b then 0 else position_among_places places i + 1)
    by_case true h l = refl
    by_case false h l = ap (λ n. n + 1) (h (omega (arith, l)))

-- a new place, once appended, has the last index
pub index_last : (places : List ℕ) (i : ℕ) → length places ≤ position_among_places places i → position_among_places (places ++ i ∷ []) i ≡ length places
index_last [] i le = by_case (i == i) refl
  where
    by_case : (b : Bool) → (i == i) ≡ b → (if b then 0 else 0 + 1) ≡ 0
    by_case true h = refl
    by_case false h = grind arith
index_last (p ∷ places) i le = by_case (p == i) (λ l. index_last places i l) le
  where
    by_case : (b : Bool) → (length places ≤ position_among_places places i → position_among_places (places ++ i ∷ []) i ≡ length places) → length (p ∷ places) ≤ (if b then 0 else position_among_places places i + 1) → (if b then 0 else position_among_places (places ++ i ∷ []) i + 1) ≡ length (p ∷ places)
    by_case true h l = omega (arith, l)
    by_case false h l = let e = h (omega (arith, l)) in omega (arith, e)

pub index_absent : (places : List ℕ) (i : ℕ) → length places ≤ position_among_places places i → (k d : ℕ) → k < length places → get_or places k d ≡ i → ⊥
index_absent [] i le k d lt is = omega arith
index_absent (p ∷ places) i le zero d lt is = by_case (p == i) refl le
  where
    by_case : (b : Bool) → (p == i) ≡ b → length (p ∷ places) ≤ (if b then 0 else position_among_places places i + 1)
        → ⊥
    by_case true h l = omega (arith, l)
    by_case false h l = grind arith
index_absent (p ∷ places) i le (suc k) d lt is = by_case (p == i) (λ l. index_absent places i l k d (omega arith) is) le
  where
    by_case : (b : Bool) → (length places ≤ position_among_places places i → ⊥) → length (p ∷ places) ≤ (if b then 0 else position_among_places places i + 1) → ⊥
    by_case true h l = omega (arith, l)
    by_case false h l = h (omega (arith, l))
