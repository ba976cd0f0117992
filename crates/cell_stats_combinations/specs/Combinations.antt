-- The combinations of the cells of several maps, and their order (r.stats manual; null last is our own choice).
use Rattle.std.specs.Prelude.{ℕ, ◌<◌, All, List, length, map, None, flat_map, slice_get}
use Rattle.std.specs.Option.{option_map_or}
use Rattle.std.specs.declared.cmp.Ordering.{Ordering}
use Rattle.std.specs.Cmp.{IsTotalOrder}
use Rattle.std.specs.Cmp.Lexicographic.{slice_cmp, lists_total}
use Rattle.std.specs.List.{range_with_len}
use Rattle.cell_core_values.specs.Cell.{compare_cells_null_last, cell_cmp_total}
use Rattle.cell_core.specs.Grid.{Grid, CellValue, cell_at}
use Rattle.cell_core.specs.Shelf.{ShelfValue}

-- one cell from each picked map
abbrev pub Combination : Type 0
Combination = List CellValue

-- combinations in ascending order of their first cell, then of their second, and so on; null is last (profile)
abbrev pub combination_cmp : Combination → Combination → Ordering
combination_cmp = slice_cmp compare_cells_null_last

-- the order is total
pub combination_cmp_total : IsTotalOrder combination_cmp
combination_cmp_total = lists_total cell_cmp_total

-- the cell at a row and a column of the map at index `place`
abbrev pub cell_of_map_at_place : List Grid → ℕ → ℕ → ℕ → CellValue
cell_of_map_at_place maps row col place = option_map_or (λ m. cell_at m row col) (slice_get maps place) None

-- the combination at a row and a column of the picked maps
abbrev pub combination_at_row_and_column : List Grid → List ℕ → ℕ → ℕ → Combination
combination_at_row_and_column maps picks row col = map (cell_of_map_at_place maps row col) picks

-- the combinations of a row, from the left
abbrev pub row_combinations : List Grid → List ℕ → ℕ → ℕ → List Combination
row_combinations maps picks cols row = map (combination_at_row_and_column maps picks row) (range_with_len 0 cols)

-- the combinations of all cells, row by row from the top left
abbrev pub all_combinations : List Grid → List ℕ → ℕ → ℕ → List Combination
all_combinations maps picks rows cols = flat_map (row_combinations maps picks cols) (range_with_len 0 rows)

-- the combinations of all cells of the picked maps of a shelf
abbrev pub shelf_combinations : ShelfValue → List ℕ → List Combination
shelf_combinations shelf picks = all_combinations shelf.maps picks shelf.region.rows shelf.region.cols

-- all picks are indices of maps on the shelf
abbrev pub ArePicksOnShelf : ShelfValue → List ℕ → Type 0
ArePicksOnShelf shelf picks = All (λ i. i < length shelf.maps) picks
