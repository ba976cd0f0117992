-- A map whose cells are given as a function of row and column.
use Rattle.std.proofs.Common.{◌≡◌, ℕ, ◌<◌, List, [], length, map, get_or, None, ap, ◌∙◌, arith}
use Rattle.std.specs.List.{range_with_len}
use Rattle.std.proofs.lemmas.List.FromFn.{length-map-range_with_len, get_or-map-range_with_len}
use Rattle.std.proofs.lemmas.List.Elements.{All-map}
use Rattle.cell_core_values.specs.Region.{RegionValue}
use Rattle.cell_core.specs.Grid.{Grid, CellValue, RowsFillRegion, cell_at, empty_category_labels}

module _ (region : RegionValue) (at : ℕ → ℕ → CellValue) where
  abbrev made_row : ℕ → List CellValue
  made_row r = map (at r) (range_with_len 0 region.cols)

  abbrev made_rows : List (List CellValue)
  made_rows = map made_row (range_with_len 0 region.rows)

  abbrev pub made_map : Grid
  made_map = record { region = region; rows = made_rows; labels = empty_category_labels }

  pub made_filled : RowsFillRegion made_map.region made_map.rows
  made_filled = record {
    count = length-map-range_with_len made_row 0 region.rows;
    width = All-map (λ (row : List CellValue). length row ≡ region.cols) made_row (range_with_len 0 region.rows)
        (λ i d lt. length-map-range_with_len (at (get_or (range_with_len 0 region.rows) i d)) 0 region.cols);
  }

  pub made_there : (r c : ℕ) → r < region.rows → c < region.cols → cell_at made_map r c ≡ at r c
  made_there r c high wide =
      ap (λ (row : List CellValue). get_or row c None)
      (get_or-map-range_with_len made_row 0 region.rows r r [] high (omega arith))
      ∙ get_or-map-range_with_len (at r) 0 region.cols c c None wide (omega arith)
