-- The clumps of the worked map: their first cells, and a path to each of their cells.
use Rattle.std.proofs.Common.{◌≡◌, ◌<◌, ℕ, zero, suc, List, [], ◌∷◌, length, refl, arith}
use Rattle.std.specs.Prelude.{slice_index_or}
use Rattle.cell_core.specs.Grid.{Grid, CellValue, RowsFillRegion, empty_category_labels}
use Rattle.cell_clumps.specs.Clumps.{Position}
use Rattle.cell_clumps.specs.declared.clump.Joining.{Joining}
use Rattle.cell_clumps.specs.declared.clump.Joining.TheVariants.{Edges, EdgesAndCorners}
use Rattle.cell_clumps.specs.parts.CellPlaces.{position_at_row_and_column as at}
use Rattle.cell_clumps.proofs.LawLemmas.{clump_map_is_unique}
use Rattle.rcell_worked.specs.WorkedNumbers.{IsOnlyClumpMapOf, CategoryLabels, four_by_four_map, four_by_four_rows}
use Rattle.rcell_worked.specs.WorkedNumbers.{clump_numbers_by_edges, clump_numbers_by_corners}
use Rattle.rcell_worked.proofs.NumberingLemmas.{Passes, clumped}

-- for each row, the paths to its cells
abbrev Paths : Type 0
Paths = List (List (List Position))

abbrev path_in : Paths → Position → List Position
path_in rows p = slice_index_or (slice_index_or rows p.row []) p.col []

abbrev edge_firsts : List Position
edge_firsts = at 0 0 ∷ at 0 1 ∷ at 1 3 ∷ at 2 1 ∷ at 2 3 ∷ at 3 0 ∷ []

abbrev edge_paths : Paths
edge_paths =
    ([] ∷ [] ∷ (at 1 0 ∷ at 1 1 ∷ at 1 2 ∷ at 0 2 ∷ []) ∷ [])
    ∷ ((at 1 0 ∷ []) ∷ (at 1 0 ∷ at 1 1 ∷ []) ∷ (at 1 0 ∷ at 1 1 ∷ at 1 2 ∷ []) ∷ [])
    ∷ []
    ∷ ([] ∷ (at 3 3 ∷ at 3 2 ∷ at 3 1 ∷ []) ∷ (at 3 3 ∷ at 3 2 ∷ []) ∷ (at 3 3 ∷ []) ∷ []) ∷ []

abbrev corner_firsts : List Position
corner_firsts = at 0 0 ∷ at 0 1 ∷ at 1 3 ∷ at 2 1 ∷ []

abbrev corner_paths : Paths
corner_paths =
    ([] ∷ [] ∷ (at 1 1 ∷ at 0 2 ∷ []) ∷ [])
    ∷ ((at 1 0 ∷ []) ∷ (at 1 1 ∷ []) ∷ (at 1 1 ∷ at 1 2 ∷ []) ∷ [])
    ∷ ([] ∷ [] ∷ [] ∷ (at 1 1 ∷ at 1 2 ∷ at 2 3 ∷ []) ∷ [])
    ∷ ((at 3 0 ∷ []) ∷ (at 1 1 ∷ at 1 2 ∷ at 2 3 ∷ at 3 2 ∷ at 3 1 ∷ [])
    ∷ (at 1 1 ∷ at 1 2 ∷ at 2 3 ∷ at 3 2 ∷ []) ∷ (at 1 1 ∷ at 1 2 ∷ at 2 3 ∷ at 3 3 ∷ []) ∷ []) ∷ []

-- a map of four rows with four cells each has its rows and columns
filled : (labels : CategoryLabels) (a b c d : List CellValue)
    → length a ≡ 4 → length b ≡ 4 → length c ≡ 4 → length d ≡ 4
    → RowsFillRegion (four_by_four_map labels (a ∷ b ∷ c ∷ d ∷ [])).region (a ∷ b ∷ c ∷ d ∷ [])
filled labels a b c d a_wide b_wide c_wide d_wide = record { count = refl; width = wide }
  where
    wide : (k : ℕ) (other : List CellValue) → k < 4
        → length (slice_index_or (a ∷ b ∷ c ∷ d ∷ []) k other) ≡ 4
    wide zero other within = a_wide
    wide (suc zero) other within = b_wide
    wide (suc (suc zero)) other within = c_wide
    wide (suc (suc (suc zero))) other within = d_wide
    wide (suc (suc (suc (suc k)))) other within = absurd (omega (arith, within))

edges_pass : (labels : CategoryLabels) → Passes Edges (four_by_four_map labels four_by_four_rows)
    (four_by_four_map empty_category_labels clump_numbers_by_edges) edge_firsts
    (path_in edge_paths)
edges_pass labels = record {
  given = filled labels _ _ _ _ refl refl refl refl;
  filled = filled empty_category_labels _ _ _ _ refl refl refl refl;
  region = refl;
  labels = refl;
  cells = refl;
  pairs = refl;
  nexts = refl;
  nulls = refl;
}

corners_pass : (labels : CategoryLabels) → Passes EdgesAndCorners (four_by_four_map labels four_by_four_rows)
    (four_by_four_map empty_category_labels clump_numbers_by_corners)
    corner_firsts (path_in corner_paths)
corners_pass labels = record {
  given = filled labels _ _ _ _ refl refl refl refl;
  filled = filled empty_category_labels _ _ _ _ refl refl refl refl;
  region = refl;
  labels = refl;
  cells = refl;
  pairs = refl;
  nexts = refl;
  nulls = refl;
}

only : (j : Joining) (m numbers : Grid) (firsts : List Position) (path : Position → List Position)
    → Passes j m numbers firsts path → IsOnlyClumpMapOf j m numbers
only j m numbers firsts path passes =
    let clumping = clumped j m numbers firsts path passes in
    record {
      filled = passes.filled;
      clumping = clumping;
      only = λ other full is. clump_map_is_unique j m other numbers full passes.filled is clumping;
    }

pub by_edges : (labels : CategoryLabels) → IsOnlyClumpMapOf Edges (four_by_four_map labels four_by_four_rows)
    (four_by_four_map empty_category_labels clump_numbers_by_edges)
by_edges labels = only Edges (four_by_four_map labels four_by_four_rows)
    (four_by_four_map empty_category_labels clump_numbers_by_edges) edge_firsts (path_in edge_paths)
    (edges_pass labels)

pub by_corners : (labels : CategoryLabels)
    → IsOnlyClumpMapOf EdgesAndCorners (four_by_four_map labels four_by_four_rows)
    (four_by_four_map empty_category_labels clump_numbers_by_corners)
by_corners labels = only EdgesAndCorners (four_by_four_map labels four_by_four_rows)
    (four_by_four_map empty_category_labels clump_numbers_by_corners) corner_firsts
    (path_in corner_paths) (corners_pass labels)
