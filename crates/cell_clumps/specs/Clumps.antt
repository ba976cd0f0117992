-- The clumps of a map and their numbers (r.clump manual, "contiguous"; the order of the numbers is our own choice).
use Rattle.std.specs.Prelude.{ℕ, ℤ, pos, ◌+◌, ◌<◌, ◌≡◌, ◌⊎◌, ◌↔◌, List, [], ◌∷◌, length, Some, None, IsSome, All, Contains}
use Rattle.std.specs.List.{AllPairs}
use Rattle.cell_core.specs.Grid.{Grid, CellValue, cell_at, empty_category_labels}
use Rattle.cell_clumps.specs.declared.clump.Joining.{Joining}
use Rattle.cell_clumps.specs.declared.clump.Joining.TheVariants.{Edges, EdgesAndCorners}

-- the position of a cell: its row and column, counted from 0
pub record Position : Type 0 where
  pub row : ℕ
  pub col : ℕ

-- the cell of a map at a position; null outside the map
abbrev pub cell_at_position : Grid → Position → CellValue
cell_at_position m p = cell_at m p.row p.col

-- p precedes q in row order: row by row from the top, each row from the left
abbrev pub IsEarlierCell : Position → Position → Type 0
IsEarlierCell p q = (p.row < q.row) ⊎ ((p.row ≡ q.row) × (p.col < q.col))

-- two row numbers, or two column numbers, differ by 1
abbrev pub DifferByOne : ℕ → ℕ → Type 0
DifferByOne i j = (i + 1 ≡ j) ⊎ (j + 1 ≡ i)

-- two cells share an edge: they are adjacent in the same row or the same column
abbrev pub CellsShareEdge : Position → Position → Type 0
CellsShareEdge p q = ((p.row ≡ q.row) × DifferByOne p.col q.col) ⊎ (DifferByOne p.row q.row × (p.col ≡ q.col))

-- two cells touch at a corner only
abbrev pub CellsTouchOnlyAtCorner : Position → Position → Type 0
CellsTouchOnlyAtCorner p q = DifferByOne p.row q.row × DifferByOne p.col q.col

-- two cells are adjacent under this connectivity
abbrev pub AreAdjacent : Joining → Position → Position → Type 0
AreAdjacent Edges p q = CellsShareEdge p q
AreAdjacent EdgesAndCorners p q = CellsShareEdge p q ⊎ CellsTouchOnlyAtCorner p q

-- the list is a path from p to q: each cell is adjacent to the next, and the last is q
abbrev pub IsPathFromTo : Joining → Position → List Position → Position → Type 0
IsPathFromTo j p [] q = p ≡ q
IsPathFromTo j p (next ∷ others) q = AreAdjacent j p next × IsPathFromTo j next others q

-- a path connects two cells, and all its cells have the same category, so none is null or outside the map
pub record AreCellsConnected (j : Joining) (m : Grid) (p q : Position) : Type 0 where
  pub category : ℤ
  pub others : List Position
  pub leads : IsPathFromTo j p others q
  pub alike : All (λ s. cell_at_position m s ≡ Some category) (p ∷ others)

-- the cell is the first of its clump: it is not null, and no earlier cell is connected to it
pub record IsFirstCellOfClump (j : Joining) (m : Grid) (p : Position) : Type 0 where
  pub category : IsSome (cell_at_position m p)
  pub none_before : (q : Position) → IsEarlierCell q p → ¬ AreCellsConnected j m q p

-- the first cells of clumps, up to and including the cell f, in row order
pub record AreFirstCellsOfClumpsUpTo (j : Joining) (m : Grid) (f : Position) (firsts : List Position) : Type 0 where
  pub in_order : AllPairs IsEarlierCell firsts
  pub exactly : (p : Position) → Contains firsts p ↔ (IsFirstCellOfClump j m p × ¬ IsEarlierCell f p)

-- the number of a cell: its clump's rank in the order of first cells
pub record HasClumpNumber (j : Joining) (m : Grid) (p : Position) (n : ℕ) : Type 0 where
  pub first : Position
  pub is_first : IsFirstCellOfClump j m first
  pub joined : AreCellsConnected j m first p
  pub firsts : List Position
  pub up_to : AreFirstCellsOfClumpsUpTo j m first firsts
  pub count : length firsts ≡ n

-- `numbers` is the clump map of m: each non-null cell has the number of its clump
pub record IsClumpMapOf (j : Joining) (m numbers : Grid) : Type 0 where
  -- the region is the same, and there are no labels
  pub region : numbers.region ≡ m.region
  pub labels : numbers.labels ≡ empty_category_labels
  -- null stays null
  pub nulls : (p : Position) → cell_at_position m p ≡ None → cell_at_position numbers p ≡ None
  -- each non-null cell has its number
  pub numbered : (p : Position) → IsSome (cell_at_position m p) → (n : ℕ) × HasClumpNumber j m p n × (cell_at_position numbers p ≡ Some (pos n))
  -- two non-null cells have the same number if and only if a path connects them
  pub same : (p q : Position) → IsSome (cell_at_position m p) → IsSome (cell_at_position m q) → (cell_at_position numbers p ≡ cell_at_position numbers q) ↔ AreCellsConnected j m p q
