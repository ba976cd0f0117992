-- Positions in a row of a map, for walking over its runs.
use Rattle.std.specs.Prelude.{ℕ, ◌≡◌, ◌<◌, List, [], ◌++◌, length, All, replicate, slice_get, refl}
use Rattle.std.specs.Coded.{Coded, code_by, coded×, coded_ℕ, coded_ℤ, coded_list, coded_option}
use Rattle.std.specs.Option.{option_map_or}
use Rattle.cell_core.specs.Grid.{Grid, CellValue, row_at}
use Rattle.cell_core.specs.Runs.{RunValue, cells_of_runs}
use Rattle.cell_core.specs.Shelf.{ShelfValue}

-- the remaining runs, the current cell, and the remaining number of columns with this cell
pub record RunCursorValue : Type 0 where
  pub runs : List RunValue
  pub cell : CellValue
  pub left : ℕ

-- the cells from the current position to the end of the row
abbrev pub to_come : RunCursorValue → List CellValue
to_come c = replicate c.left c.cell ++ cells_of_runs c.runs

-- no later run is empty, and the current run is empty only if there is no later run
pub record CursorHasNoEmptyLaterRun (c : RunCursorValue) : Type 0 where
  pub runs : All (λ run. 0 < run.1) c.runs
  pub present : c.left ≡ 0 → c.runs ≡ []

-- a row of the map at index `place`
abbrev pub row_of_map_at_place : List Grid → ℕ → ℕ → List CellValue
row_of_map_at_place maps row place = option_map_or (λ m. row_at m row) (slice_get maps place) []

-- the rows of the picked maps are as wide as the region
abbrev pub RowsAreAsWideAsRegion : ShelfValue → ℕ → List ℕ → Type 0
RowsAreAsWideAsRegion shelf row picks = All (λ place. length (row_of_map_at_place shelf.maps row place)
    ≡ shelf.region.cols) picks

-- the encoding of a cursor
abbrev pub cursor_encoding : Coded RunCursorValue
cursor_encoding =
    code_by (List RunValue × (CellValue × ℕ)) (coded× (coded_list (coded× (coded_option coded_ℤ) coded_ℕ)) (coded× (coded_option coded_ℤ) coded_ℕ))
    (λ c. (c.runs, (c.cell, c.left))) (λ p. record { runs = p.0; cell = p.1.0; left = p.1.1 }) (λ _. refl)
