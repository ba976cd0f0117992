-- The places of names in a list of distinct names.
use Rattle.std.proofs.Common.{◌≡◌, ◌≢◌, ℕ, zero, suc, Bool, true, false, ◌+◌, ◌<◌, List, [], ◌∷◌, ◌++◌, length, Option, Some, None, arith, ap, ◌∙◌, subst, refl, cond}
use Rattle.std.specs.Prelude.{bytes_eq, slice_get, slice_index_or}
use Rattle.std.specs.List.{position_from}
use Rattle.std.proofs.lemmas.List.Quantifiers.{all_pairs_push}
use Rattle.std.proofs.lemmas.Option.{get_or_from_slice_get, slice_get_within, slice_get_read}
use Rattle.std.proofs.lemmas.Slice.Eq.{bytes_eq-Decides}
use Rattle.cell_core_values.specs.Name.{place_of_name, AreDistinctNames}

pub cond-none : (b : Bool) (i : ℕ) (rest : Option ℕ) → cond b (Some i) rest ≡ None → (b ≡ false) × (rest ≡ None)
cond-none true i rest h = cc
cond-none false i rest h = (refl, h)

-- if the search finds nothing, no element passes the test
pub none_pass : (p : List ℕ → Bool) (i : ℕ) (names : List (List ℕ)) → position_from p i names ≡ None → (k : ℕ) (d : List ℕ) → k < length names → p (slice_index_or names k d) ≡ false
none_pass p i [] h k d within = absurd (omega arith)
none_pass p i (x ∷ xs) h zero d within = (cond-none (p x) i (position_from p (i + 1) xs) h).0
none_pass p i (x ∷ xs) h (suc k) d within = none_pass p (i + 1) xs (cond-none (p x) i (position_from p (i + 1) xs) h).1 k d (omega arith)

pub bytes_eq-apart : (a b : List ℕ) → bytes_eq a b ≡ false → a ≢ b
bytes_eq-apart a b apart e = let same : bytes_eq a b ≡ true = (bytes_eq-Decides a b).1 e in cc

pub bytes_eq-differ : (a b : List ℕ) → a ≢ b → bytes_eq a b ≡ false
bytes_eq-differ a b differ = by_cases (bytes_eq a b) (λ same. absurd (differ ((bytes_eq-Decides a b).0 same)))
  where
    by_cases : (t : Bool) → (t ≡ true → t ≡ false) → t ≡ false
    by_cases true h = h refl
    by_cases false h = refl

-- names stay distinct if a name that is not among them is appended
pub AreDistinct-push : (names : List (List ℕ)) (name : List ℕ) → AreDistinctNames names
    → place_of_name name names ≡ None
    → AreDistinctNames (names ++ name ∷ [])
AreDistinct-push names name h none =
    all_pairs_push (λ a b. a ≢ b) names name h (λ k d within. bytes_eq-apart (slice_index_or names k d) name (none_pass (λ n. bytes_eq n name) 0 names none k d within))

-- each name is found at its own place, counted from a start
pub own_from : (start : ℕ) (names : List (List ℕ)) (k : ℕ) (name : List ℕ) → AreDistinctNames names
    → slice_get names k ≡ Some name → position_from (λ n. bytes_eq n name) start names ≡ Some (start + k)
own_from start [] k name h at = cc
own_from start (x ∷ xs) zero name h at =
    let same : bytes_eq x name ≡ true = (bytes_eq-Decides x name).1 cc in
    rw same (ap Some (omega arith))
own_from start (x ∷ xs) (suc k) name h at =
    let within : k < length xs = slice_get_within xs k name at in
    let apart : x ≢ name = subst (λ n. x ≢ n) (get_or_from_slice_get xs k name [] at) (h 0 (suc k) [] (omega arith) (omega arith)) in
    let differ : bytes_eq x name ≡ false = bytes_eq-differ x name apart in
    rw differ (own_from (start + 1) xs k name (λ i j d lt inside. h (suc i) (suc j) d (omega arith) (omega arith)) at ∙ ap Some (omega arith))

-- each name is found at its own place
pub place_of-own : (names : List (List ℕ)) (i : ℕ) (name : List ℕ) → AreDistinctNames names → i < length names
    → name ≡ slice_index_or names i name → place_of_name name names ≡ Some i
place_of-own names i name h within read =
    own_from 0 names i name h (slice_get_read names (length names) i name refl within read) ∙ ap Some (omega arith)
