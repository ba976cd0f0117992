-- The regions and rows of maps with and without their halo.
use Rattle.std.proofs.Common.{◌≡◌, ◌≤◌, ◌<◌, ◌*◌, ℕ, List, take, drop, map, Ok, Err, Bool, true, false, refl, ap}
use Rattle.std.proofs.Common.{sym, ◌∙◌, arith}
use Rattle.std.specs.Prelude.{nat_le, not, if◌then◌else◌}
use Rattle.std.proofs.lemmas.Bool.{le-leb}
use Rattle.std.proofs.lemmas.List.{take-map}
use Rattle.std.specs.List.{drop-map}
use Rattle.std.proofs.lemmas.Nat.{mul-le}
use Rattle.cell_core_values.specs.Region.{RegionValue, IsValidRegion, most_cells, region_or_first_fault}
use Rattle.cell_core_values.specs.Region.{is_row_or_column_count, is_within_cell_limit, are_region_edges_in_order}
use Rattle.cell_core_values.specs.declared.region.RegionFault.TheVariants.{BadExtent, BadRows, BadCols, TooManyCells}
use Rattle.cell_core_values.specs.SmallCells.{cell_of_stored_byte, cells_of_bytes}
use Rattle.cell_core.specs.Grid.{Grid, CellValue, UnfinishedMap}
use Rattle.rcell_tile.specs.TilePlaces.{TilePlaceValue}
use Rattle.rcell_tile.specs.TileMaps.{IsPlaceOfMaps, tile_region, halo_rows_above, halo_columns_left}

edges_in_order : (e : RegionValue) → region_or_first_fault e ≡ Ok e → are_region_edges_in_order e ≡ true
edges_in_order e good = by (are_region_edges_in_order e) good
  where
    by : (t : Bool) → (if not t then Err BadExtent else
        (if not (is_row_or_column_count e.rows) then Err BadRows else
        (if not (is_row_or_column_count e.cols) then Err BadCols else
        (if not (is_within_cell_limit e) then Err TooManyCells else Ok e)))) ≡ Ok e → t ≡ true
    by true g = refl
    by false g = cc

accepted_if : (e : RegionValue) (a b c d : Bool) → a ≡ true → b ≡ true → c ≡ true → d ≡ true
    → (if not a then Err BadExtent else
    (if not b then Err BadRows else
    (if not c then Err BadCols else (if not d then Err TooManyCells else Ok e)))) ≡ Ok e
accepted_if e a b c d ha hb hc hd = rw (ha, hb, hc, hd) refl

count_if : (n : ℕ) → 0 < n → n ≤ 65535 → is_row_or_column_count n ≡ true
count_if n some few = rw (le-leb 1 n some, le-leb n 65535 few) refl

-- a valid tile has a valid region
pub tile_region_accepted : (p : TilePlaceValue) (e : RegionValue) → IsPlaceOfMaps p e → IsValidRegion e
    → region_or_first_fault (tile_region p e) ≡ Ok (tile_region p e)
tile_region_accepted p e is valid =
    let t = is.valid.tile in
    let rows : p.tile.rows ≤ e.rows = omega (arith, t.top, t.bottom, is.rows) in
    let cols : p.tile.cols ≤ e.cols = omega (arith, t.left, t.right, is.cols) in
    let all : p.tile.rows * p.tile.cols ≤ e.rows * e.cols = mul-le p.tile.rows p.tile.cols e.rows e.cols rows cols in
    accepted_if (tile_region p e) (are_region_edges_in_order e) (is_row_or_column_count p.tile.rows)
    (is_row_or_column_count p.tile.cols) (nat_le (p.tile.rows * p.tile.cols) most_cells)
    (edges_in_order e valid.accepted) (count_if p.tile.rows is.valid.rows_least (omega (arith, rows, valid.rows_most)))
    (count_if p.tile.cols is.valid.cols_least (omega (arith, cols, valid.cols_most)))
    (le-leb (p.tile.rows * p.tile.cols) most_cells (omega (arith, all, valid.cells_most)))

-- the tile's part of a row
abbrev pub tile_part : TilePlaceValue → List CellValue → List CellValue
tile_part p row = take p.tile.cols (drop (halo_columns_left p) row)

-- the bytes of a part of a row are the part of its cells
pub part_of_bytes : (n from : ℕ) (bytes : List ℕ) (row : List CellValue) → cells_of_bytes bytes ≡ row
    → cells_of_bytes (take n (drop from bytes)) ≡ take n (drop from row)
part_of_bytes n from bytes row is =
    sym (take-map cell_of_stored_byte n (drop from bytes))
    ∙ ap (take n) (sym (drop-map cell_of_stored_byte from bytes)) ∙ ap (λ l. take n (drop from l)) is

-- the first n rows of the map of the tile
abbrev pub first_tile_rows : TilePlaceValue → Grid → ℕ → UnfinishedMap
first_tile_rows p m n = record {
  region = tile_region p m.region;
  rows = map (tile_part p) (take n (drop (halo_rows_above p) m.rows));
}
