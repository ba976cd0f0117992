-- Looking up the places of names, one name after another.
use Rattle.std.proofs.lemmas.Grind.{common_steps}
use Rattle.std.proofs.Common.{◌≡◌, ℕ, zero, suc, ◌+◌, ◌<◌, Bool, true, false, cond, List, [], ◌∷◌, ◌++◌, length, take, get_or, length-append, All, Option, Some, None, refl, ap, sym, ◌∙◌, arith, rules}
use Rattle.std.specs.List.{position_from}
use Rattle.std.specs.Option.{option_map, option_and_then}
use Rattle.std.proofs.lemmas.List.{take_more}
use Rattle.std.proofs.lemmas.List.Elements.{All-append}
use Rattle.cell_core_values.specs.Name.{place_of_name}
use Rattle.rcell_script.specs.InputPlaces.{places_of_map_names}

-- the place of an element that is found is within the list
position_from-within : {K : Type 0} (t : K → Bool) (i : ℕ) (xs : List K) (p : ℕ) → position_from t i xs ≡ Some p → p < i + length xs
position_from-within t i [] p e = cc
position_from-within {K} t i (x ∷ xs) p e = by (t x) (position_from-within t (i + 1) xs p) e
  where
    by : (b : Bool) → (position_from t (i + 1) xs ≡ Some p → p < (i + 1) + length xs) → cond b (Some i) (position_from t (i + 1) xs) ≡ Some p → p < i + length (x ∷ xs)
    by true more e = let q : i ≡ p = cc in omega arith
    by false more e = let q = more e in omega (arith, q)

pub place_of-within : (name : List ℕ) (known : List (List ℕ)) (p : ℕ) → place_of_name name known ≡ Some p
    → p < length known
place_of-within name known p e = omega (arith, position_from-within _ 0 known p e)

-- one more known name adds its place
places_of-push : (known xs : List (List ℕ)) (x : List ℕ) (ps : List ℕ) (p : ℕ) → places_of_map_names known xs ≡ Some ps → place_of_name x known ≡ Some p → places_of_map_names known (xs ++ x ∷ []) ≡ Some (ps ++ p ∷ [])
places_of-push known [] x ps p e f = let none : [] ≡ ps = cc in rw f (ap (λ l. Some (l ++ p ∷ [])) none)
places_of-push known (y ∷ ys) x ps p e f = by (place_of_name y known) (places_of_map_names known ys) (λ qs g. places_of-push known ys x qs p g f) e
  where
    by : (o : Option ℕ) (r : Option (List ℕ)) → ((qs : List ℕ) → r ≡ Some qs → places_of_map_names known (ys ++ x ∷ []) ≡ Some (qs ++ p ∷ []))
        → option_and_then (λ place. option_map (λ places. place ∷ places) r) o ≡ Some ps
        → option_and_then (λ place. option_map (λ places. place ∷ places) (places_of_map_names known (ys ++ x ∷ []))) o ≡ Some (ps ++ p ∷ [])
    by None r more h = cc
    by (Some q) None more h = cc
    by (Some q) (Some qs) more h = search rules

none_after : {A B : Type 0} (f : A → Option B) → ((a : A) → f a ≡ None) → (o : Option A) → option_and_then f o ≡ None
none_after f h None = refl
none_after f h (Some a) = h a

places_of-none : (known xs : List (List ℕ)) (i : ℕ) (d : List ℕ) → i < length xs → place_of_name (get_or xs i d) known ≡ None → places_of_map_names known xs ≡ None
places_of-none known [] i d h e = absurd (omega arith)
places_of-none known (x ∷ xs) zero d h e = rw e refl
places_of-none known (x ∷ xs) (suc i) d h e = let rest = places_of-none known xs i d (omega arith) e in none_after _ (λ p. rw rest refl) (place_of_name x known)

-- if the name at place i is unknown, the names have no places
pub unknown_map_column : (known xs : List (List ℕ)) (i : ℕ) (x y : List ℕ) → i < length xs → x ≡ get_or xs i x → y ≡ x → None ≡ place_of_name y known → places_of_map_names known xs ≡ None
unknown_map_column known xs i x y h read same e = places_of-none known xs i x h (ap (λ n. place_of_name n known) (sym read ∙ sym same) ∙ sym e)

-- if the name at place i is known, its place is added
pub known_at : (known xs : List (List ℕ)) (i : ℕ) (x y : List ℕ) (ps : List ℕ) (p : ℕ) → i < length xs → x ≡ get_or xs i x → y ≡ x → places_of_map_names known (take i xs) ≡ Some ps → Some p ≡ place_of_name y known
    → places_of_map_names known (take (i + 1) xs) ≡ Some (ps ++ p ∷ [])
known_at known xs i x y ps p h read same so_far e = grind (arith, common_steps, take_more, places_of-push, get_or)

alone : (n p : ℕ) → p < n → All (λ q. q < n) (p ∷ [])
alone n p h zero d k = h
alone n p h (suc i) d k = absurd (omega arith)

-- one more place is within the known names
pub within_more : (known : List (List ℕ)) (y : List ℕ) (ps : List ℕ) (p : ℕ) → All (λ q. q < length known) ps → Some p ≡ place_of_name y known → All (λ q. q < length known) (ps ++ p ∷ [])
within_more known y ps p all e = All-append (λ (q : ℕ). q < length known) ps (p ∷ []) all (alone (length known) p (place_of-within y known p (sym e)))

-- appending an element adds 1 to the length
pub length-more : {A : Type 0} (xs : List A) (x : A) (n : ℕ) → length xs ≡ n → length (xs ++ x ∷ []) ≡ n + 1
length-more xs x n e = omega (arith, e, length-append xs (x ∷ []))
