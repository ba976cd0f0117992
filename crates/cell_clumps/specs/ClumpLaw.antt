-- Laws about clump maps: a map has only one, and its numbers are 1 to the number of clumps (profile).
use Rattle.std.specs.Prelude.{ℕ, pos, ◌≡◌, ◌≤◌, ◌↔◌, List, length, Some, IsSome, Contains}
use Rattle.std.specs.List.{AllPairs}
use Rattle.cell_core.specs.Grid.{Grid, RowsFillRegion}
use Rattle.cell_clumps.specs.declared.clump.Joining.{Joining}
use Rattle.cell_clumps.specs.Clumps.{Position, cell_at_position, IsEarlierCell, IsFirstCellOfClump, IsClumpMapOf}

-- for each adjacency, a map has at most one clump map
abbrev pub ClumpMapIsUnique : Type 0
ClumpMapIsUnique = (j : Joining) (m a b : Grid) → RowsFillRegion a.region a.rows → RowsFillRegion b.region b.rows
    → IsClumpMapOf j m a → IsClumpMapOf j m b → a ≡ b

-- some cell has the number n
abbrev pub NumberOccursInMap : Grid → ℕ → Type 0
NumberOccursInMap numbers n = (p : Position) × (cell_at_position numbers p ≡ Some (pos n))

-- the number of a non-null cell is at least 1, and all smaller numbers from 1 up also occur
abbrev pub ClumpNumbersHaveNoGaps : Type 0
ClumpNumbersHaveNoGaps = (j : Joining) (m numbers : Grid) → IsClumpMapOf j m numbers → (p : Position)
    → IsSome (cell_at_position numbers p) → (n : ℕ) × (cell_at_position numbers p ≡ Some (pos n)) × (1 ≤ n)
    × ((k : ℕ) → 1 ≤ k → k ≤ n → NumberOccursInMap numbers k)

-- the first cells of all clumps, in row order
pub record AreFirstCellsOfAllClumps (j : Joining) (m : Grid) (firsts : List Position) : Type 0 where
  pub in_order : AllPairs IsEarlierCell firsts
  pub exactly : (p : Position) → Contains firsts p ↔ IsFirstCellOfClump j m p

-- the numbers that occur are 1 to the number of clumps
abbrev pub ClumpNumbersEndAtClumpCount : Type 0
ClumpNumbersEndAtClumpCount = (j : Joining) (m numbers : Grid) → IsClumpMapOf j m numbers → (firsts : List Position)
    → AreFirstCellsOfAllClumps j m firsts → (n : ℕ) → NumberOccursInMap numbers n ↔ ((1 ≤ n) × (n ≤ length firsts))
