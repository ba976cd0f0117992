-- The functions of a table of names.
use Rattle.std.proofs.Common.{◌≡◌, ℕ, zero, suc, ◌<◌, length, List, [], ◌∷◌, drop, get_or, ◌≤◌, Bor, Some, None, true, false, refl, arith}
use Rattle.std.specs.Prelude.{bytes_eq}
use Rattle.cell_calc_grammar.specs.declared.function.Function.{Function}
use Rattle.cell_calc_grammar.specs.Function.{function_named_among}

-- the entries of a table, as pairs of a name and a function
abbrev pub entries : List (Bor (List ℕ) × Function) → List (List ℕ × Function)
entries [] = []
entries (f ∷ fs) = (f.0.now, f.1) ∷ entries fs

-- if the entry at an index has another name, the search continues after it
pub not_here : (fs : List (Bor (List ℕ) × Function)) (name : List ℕ) (i : ℕ) (f : Bor (List ℕ) × Function) → i < length fs → bytes_eq name (get_or fs i f).0.now ≡ false
    → function_named_among (entries (drop i fs)) name ≡ function_named_among (entries (drop (suc i) fs)) name
not_here [] name i f within other = absurd (omega arith)
not_here (g ∷ fs) name zero f within other = rw other refl
not_here (g ∷ fs) name (suc i) f within other = not_here fs name i f (omega arith) other

-- if the entry at an index has the name, its function is the function of the name
pub is_here : (fs : List (Bor (List ℕ) × Function)) (name : List ℕ) (i : ℕ) (f : Bor (List ℕ) × Function)
    → i < length fs → bytes_eq name (get_or fs i f).0.now ≡ true
    → function_named_among (entries (drop i fs)) name ≡ Some (get_or fs i f).1
is_here [] name i f within same = absurd (omega arith)
is_here (g ∷ fs) name zero f within same = rw same refl
is_here (g ∷ fs) name (suc i) f within same = is_here fs name i f (omega arith) same

-- past the end of the table, no name has a function
pub none_past : (fs : List (Bor (List ℕ) × Function)) (name : List ℕ) (i : ℕ) → length fs ≤ i
    → function_named_among (entries (drop i fs)) name ≡ None
none_past [] name zero past = refl
none_past [] name (suc i) past = refl
none_past (g ∷ fs) name zero past = absurd (omega arith)
none_past (g ∷ fs) name (suc i) past = none_past fs name i (omega arith)
