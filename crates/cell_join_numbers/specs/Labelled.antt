-- Maps with labelled cells; labels are given in the order of cells.
use Rattle.std.specs.Prelude.{ℕ, ℤ, ◌<◌, ◌≡◌, ◌⊎◌, List, length, Some, IsSome, Contains, slice_index_or}
use Rattle.std.specs.List.{AllPairs}
use Rattle.cell_core.specs.Grid.{Grid}
use Rattle.cell_clumps.specs.declared.clump.Joining.{Joining}
use Rattle.cell_clumps.specs.Clumps.{Position, cell_at_position, IsEarlierCell, AreAdjacent, AreCellsConnected}
use Rattle.cell_clumps.specs.Clumps.{HasClumpNumber}
use Rattle.cell_clumps.specs.ClumpLaw.{AreFirstCellsOfAllClumps}

-- a map has `n` clumps
abbrev pub MapHasClumpCount : Joining → Grid → ℕ → Type 0
MapHasClumpCount j m n = (firsts : List Position) × AreFirstCellsOfAllClumps j m firsts × (length firsts ≡ n)

-- the labels `a` and `b` belong to two adjacent cells of one category
pub record AreLabelsOfMeetingCells (j : Joining) (m : Grid) (label_of : Position → ℕ) (a b : ℕ) : Type 0 where
  pub one : Position
  pub other : Position
  pub category : ℤ
  pub adjacent : AreAdjacent j one other
  pub first : cell_at_position m one ≡ Some category
  pub second : cell_at_position m other ≡ Some category
  pub first_label : a ≡ label_of one
  pub second_label : b ≡ label_of other

-- labels are given to cells in row order; each non-null cell has the label of a cell that is connected to it and does
-- not follow it; adjacent cells of one category have one label, or two labels that are paired, and no other labels are
-- paired
pub record AreCellsLabelledInOrder (j : Joining) (m : Grid) (starts : List Position) (label_of : Position → ℕ) (pairs : List (ℕ × ℕ)) : Type 0 where
  pub in_order : AllPairs IsEarlierCell starts
  pub cells : (k : ℕ) (d : Position) → k < length starts → IsSome (cell_at_position m (slice_index_or starts k d))
  pub own : (k : ℕ) (d : Position) → k < length starts → label_of (slice_index_or starts k d) ≡ k
  pub few : (p : Position) → IsSome (cell_at_position m p) → label_of p < length starts
  pub joined : (p : Position) → IsSome (cell_at_position m p)
      → AreCellsConnected j m (slice_index_or starts (label_of p) p) p
  pub early : (p : Position) → IsSome (cell_at_position m p) → ¬ IsEarlierCell p (slice_index_or starts (label_of p) p)
  pub meet : (p q : Position) (v : ℤ) → AreAdjacent j p q → cell_at_position m p ≡ Some v → cell_at_position m q ≡ Some v → (label_of p ≡ label_of q) ⊎ (Contains pairs (label_of p, label_of q) ⊎ Contains pairs (label_of q, label_of p))
  pub only : (a b : ℕ) → Contains pairs (a, b) → AreLabelsOfMeetingCells j m label_of a b

-- a number for each label: in every map that is labelled like this, each cell has the number of its label
abbrev pub AreClumpNumbersOfLabels : ℕ → List (ℕ × ℕ) → (ℕ → ℕ) → Type 0
AreClumpNumbersOfLabels labels pairs number = (j : Joining) (m : Grid) (starts : List Position) (label_of : Position → ℕ) → AreCellsLabelledInOrder j m starts label_of pairs → length starts ≡ labels → (p : Position) → IsSome (cell_at_position m p) → HasClumpNumber j m p (number (label_of p))

-- every map that is labelled like this has `n` clumps
abbrev pub IsClumpCountOfLabels : ℕ → List (ℕ × ℕ) → ℕ → Type 0
IsClumpCountOfLabels labels pairs n = (j : Joining) (m : Grid) (starts : List Position) (label_of : Position → ℕ) → AreCellsLabelledInOrder j m starts label_of pairs → length starts ≡ labels → MapHasClumpCount j m n
