-- The indexes of the maps that an expression reads are below its top.
use Rattle.std.proofs.Common.{◌≡◌, ◌<◌, ℕ, zero, suc, List, [], ◌∷◌, ◌++◌, get_or, arith, max, ◌⊎◌, inl, inr}
use Rattle.std.proofs.lemmas.Option.{slice_get-get_or}
use Rattle.std.specs.Prelude.{All}
use Rattle.cell_calc_language.specs.Compact.{ReadsMap, AreReading, FormulaReadsMapsAtPlaces}
use Rattle.cell_calc_language.specs.Formula.{Formula, Number, Map, Negated, Not, Binary, Call, ArgumentFormulas}
use Rattle.cell_calc_language.specs.Formula.{NoTrees, Then}
use Rattle.cell_calc_language.specs.Reach.{map_place_limit_of_formula, map_place_limit_of_formulas}

-- a number below one of two numbers is below the larger
either : (i a b : ℕ) → (i < a) ⊎ (i < b) → i < max a b
either i a b (inl h) = omega (arith, h)
either i a b (inr h) = omega (arith, h)

mutual
  reads_below : (i : ℕ) (f : Formula) → ReadsMap i f → i < map_place_limit_of_formula f
  reads_below i (Number n) h = absurd h
  reads_below i (Map j down right) h = omega (arith, h)
  reads_below i (Negated a) h = reads_below i a h
  reads_below i (Not a) h = reads_below i a h
  reads_below i (Binary op a b) (inl h) = either i (map_place_limit_of_formula a) (map_place_limit_of_formula b)
      (inl (reads_below i a h))
  reads_below i (Binary op a b) (inr h) = either i (map_place_limit_of_formula a) (map_place_limit_of_formula b)
      (inr (reads_below i b h))
  reads_below i (Call f xs) h = all_below i xs h

  all_below : (i : ℕ) (xs : ArgumentFormulas) → AreReading i xs → i < map_place_limit_of_formulas xs
  all_below i NoTrees h = absurd h
  all_below i (Then a xs) (inl h) = either i (map_place_limit_of_formula a) (map_place_limit_of_formulas xs)
      (inl (reads_below i a h))
  all_below i (Then a xs) (inr h) = either i (map_place_limit_of_formula a) (map_place_limit_of_formulas xs)
      (inr (all_below i xs h))

-- each place that an expression reads is below its top
pub read_below : (f : Formula) (places : List ℕ) → FormulaReadsMapsAtPlaces places f
    → All (λ i. i < map_place_limit_of_formula f) places
read_below f places read = λ k d lt. reads_below (get_or places k d) f (read k (get_or places k d) (slice_get-get_or places k d lt))

-- appending a place that is read keeps all places read
pub read_push : (f : Formula) (places : List ℕ) (place : ℕ) → ReadsMap place f → FormulaReadsMapsAtPlaces places f → FormulaReadsMapsAtPlaces (places ++ place ∷ []) f
read_push f [] place here there zero i h = let e : place ≡ i = cc in rw e at here
read_push f [] place here there (suc k) i h = absurd (let no : ⊥ = cc in no)
read_push f (p ∷ places) place here there zero i h = there zero i h
read_push f (p ∷ places) place here there (suc k) i h = read_push f places place here (λ k i h. there (suc k) i h) k i h
