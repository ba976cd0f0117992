-- Expressions over only the maps that they read.
use Rattle.std.specs.Prelude.{◌≡◌, ◌≢◌, ◌⊎◌, ℕ, List, Some, slice_get, AllPairs}
use Rattle.cell_core.specs.Grid.{Grid}
use Rattle.cell_calc_language.specs.Formula.{Formula, Number, Map, Negated, Not, Binary, Call, ArgumentFormulas}
use Rattle.cell_calc_language.specs.Formula.{NoTrees, Then}

abbrev mutual
  -- the expression reads the map at index i
  pub ReadsMap : ℕ → Formula → Type 0
  ReadsMap i (Number n) = ⊥
  ReadsMap i (Map j down right) = i ≡ j
  ReadsMap i (Negated a) = ReadsMap i a
  ReadsMap i (Not a) = ReadsMap i a
  ReadsMap i (Binary op a b) = ReadsMap i a ⊎ ReadsMap i b
  ReadsMap i (Call f xs) = AreReading i xs

  -- one of the arguments reads the map at index i
  pub AreReading : ℕ → ArgumentFormulas → Type 0
  AreReading i NoTrees = ⊥
  AreReading i (Then a xs) = ReadsMap i a ⊎ AreReading i xs

-- the expression reads the map at each of these indices
abbrev pub FormulaReadsMapsAtPlaces : List ℕ → Formula → Type 0
FormulaReadsMapsAtPlaces places f = (k i : ℕ) → slice_get places k ≡ Some i → ReadsMap i f

-- `picked` lists the maps at these indices, in the same order
abbrev pub AreMapsAtPlaces : List ℕ → (maps picked : List Grid) → Type 0
AreMapsAtPlaces places maps picked = (k i : ℕ) → slice_get places k ≡ Some i → slice_get picked k ≡ slice_get maps i

-- no index is listed twice
abbrev pub AreDistinctPlaces : List ℕ → Type 0
AreDistinctPlaces places = AllPairs (λ a b. a ≢ b) places
