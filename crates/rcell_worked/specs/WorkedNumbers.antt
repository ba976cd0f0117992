-- The clump numbers of a small map, by edges and by edges and corners.
use Rattle.std.specs.Prelude.{ℕ, pos, ◌≡◌, List, [], ◌∷◌, Some, None}
use Rattle.std.specs.FinMap as finmap
use Rattle.std.specs.Ordering.{int_cmp}
use Rattle.cell_core.specs.Grid.{CellValue, Grid, RowsFillRegion, empty_category_labels}
use Rattle.cell_clumps.specs.Clumps.{IsClumpMapOf}
use Rattle.cell_clumps.specs.declared.clump.Joining.{Joining}
use Rattle.cell_clumps.specs.declared.clump.Joining.TheVariants.{Edges, EdgesAndCorners}

-- a cell of category n
abbrev pub cell_of_category : ℕ → CellValue
cell_of_category n = Some (pos n)

-- labels of categories
abbrev pub CategoryLabels : Type 0
CategoryLabels = finmap.FinMap int_cmp (List ℕ)

-- a map of four rows and four columns
abbrev pub four_by_four_map : CategoryLabels → List (List CellValue) → Grid
four_by_four_map labels rows = record {
  region = record { north = pos 400000000; south = pos 0; east = pos 400000000; west = pos 0; rows = 4; cols = 4 };
  rows = rows;
  labels = labels;
}

-- clumps that wind up and to the left, two clumps of one category on both sides of null, and cells that touch only at a
-- corner, on either diagonal
abbrev pub four_by_four_rows : List (List CellValue)
four_by_four_rows =
    (cell_of_category 5 ∷ cell_of_category 7 ∷ cell_of_category 5 ∷ None ∷ [])
    ∷ (cell_of_category 5 ∷ cell_of_category 5 ∷ cell_of_category 5 ∷ cell_of_category 0 ∷ [])
    ∷ (None ∷ cell_of_category 0 ∷ None ∷ cell_of_category 5 ∷ [])
    ∷ (cell_of_category 0 ∷ cell_of_category 5 ∷ cell_of_category 5 ∷ cell_of_category 5 ∷ []) ∷ []

-- the map's clump numbers by edges
abbrev pub clump_numbers_by_edges : List (List CellValue)
clump_numbers_by_edges =
    (cell_of_category 1 ∷ cell_of_category 2 ∷ cell_of_category 1 ∷ None ∷ [])
    ∷ (cell_of_category 1 ∷ cell_of_category 1 ∷ cell_of_category 1 ∷ cell_of_category 3 ∷ [])
    ∷ (None ∷ cell_of_category 4 ∷ None ∷ cell_of_category 5 ∷ [])
    ∷ (cell_of_category 6 ∷ cell_of_category 5 ∷ cell_of_category 5 ∷ cell_of_category 5 ∷ []) ∷ []

-- the map's clump numbers by edges and corners
abbrev pub clump_numbers_by_corners : List (List CellValue)
clump_numbers_by_corners =
    (cell_of_category 1 ∷ cell_of_category 2 ∷ cell_of_category 1 ∷ None ∷ [])
    ∷ (cell_of_category 1 ∷ cell_of_category 1 ∷ cell_of_category 1 ∷ cell_of_category 3 ∷ [])
    ∷ (None ∷ cell_of_category 4 ∷ None ∷ cell_of_category 1 ∷ [])
    ∷ (cell_of_category 4 ∷ cell_of_category 1 ∷ cell_of_category 1 ∷ cell_of_category 1 ∷ []) ∷ []

-- `numbers` is the clump map of m, and no other map is
pub record IsOnlyClumpMapOf (j : Joining) (m numbers : Grid) : Type 0 where
  pub filled : RowsFillRegion numbers.region numbers.rows
  pub clumping : IsClumpMapOf j m numbers
  pub only : (other : Grid) → RowsFillRegion other.region other.rows → IsClumpMapOf j m other → other ≡ numbers

-- the clump maps of the map with any labels; the clump maps have no labels
pub record WorkedClumpNumberExamples : Type 0 where
  pub by_edges : (labels : CategoryLabels) → IsOnlyClumpMapOf Edges (four_by_four_map labels four_by_four_rows)
      (four_by_four_map empty_category_labels clump_numbers_by_edges)
  pub by_corners : (labels : CategoryLabels)
      → IsOnlyClumpMapOf EdgesAndCorners (four_by_four_map labels four_by_four_rows)
      (four_by_four_map empty_category_labels clump_numbers_by_corners)
