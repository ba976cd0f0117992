-- The maps of a tile, with and without their halo. A map without its halo keeps the edges of its region, which are only
-- printed.
use Rattle.std.specs.Prelude.{ℕ, ◌≡◌, ◌+◌, ◌-◌, List, ◌++◌, map, None, replicate}
use Rattle.cell_core_values.specs.Region.{RegionValue}
use Rattle.cell_core.specs.Grid.{Grid, CellValue, empty_category_labels}
use Rattle.cell_core.specs.Shelf.{ShelfValue}
use Rattle.cell_join_numbers.specs.Parts.{Rectangle, cells_of_rectangle}
use Rattle.rcell_tile.specs.TilePlaces.{TilePlaceValue, IsValidTilePlace}

-- the numbers of rows and columns of the halo on each side of the tile
abbrev pub halo_rows_above : TilePlaceValue → ℕ
halo_rows_above p = p.tile.top - p.outer.top

abbrev pub halo_rows_below : TilePlaceValue → ℕ
halo_rows_below p = (p.outer.top + p.outer.rows) - (p.tile.top + p.tile.rows)

abbrev pub halo_columns_left : TilePlaceValue → ℕ
halo_columns_left p = p.tile.left - p.outer.left

abbrev pub halo_columns_right : TilePlaceValue → ℕ
halo_columns_right p = (p.outer.left + p.outer.cols) - (p.tile.left + p.tile.cols)

-- the tile, counted from the first row and column of its maps
abbrev pub tile_in_its_maps : TilePlaceValue → Rectangle
tile_in_its_maps p = record {
  top = halo_rows_above p;
  left = halo_columns_left p;
  rows = p.tile.rows;
  cols = p.tile.cols;
}

-- the region of the full map, and of the tile without its halo
abbrev pub full_region : TilePlaceValue → RegionValue → RegionValue
full_region p region = record region { rows = p.rows; cols = p.cols }

abbrev pub tile_region : TilePlaceValue → RegionValue → RegionValue
tile_region p region = record region { rows = p.tile.rows; cols = p.tile.cols }

-- a map without its halo and its labels
abbrev pub tile_map : TilePlaceValue → Grid → Grid
tile_map p m = record {
  region = tile_region p m.region;
  rows = cells_of_rectangle (tile_in_its_maps p) m.rows;
  labels = empty_category_labels;
}

-- the maps without their halo, under the same names
abbrev pub tile_shelf : TilePlaceValue → ShelfValue → ShelfValue
tile_shelf p shelf = record {
  region = tile_region p shelf.region;
  names = shelf.names;
  maps = map (tile_map p) shelf.maps;
}

-- a row of the tile between null cells in its halo
abbrev pub row_with_null_halo : TilePlaceValue → List CellValue → List CellValue
row_with_null_halo p row = replicate (halo_columns_left p) None ++ (row ++ replicate (halo_columns_right p) None)

-- null rows in the halo
abbrev pub null_rows : TilePlaceValue → ℕ → List (List CellValue)
null_rows p n = replicate n (replicate p.outer.cols None)

-- a map of the tile with null in its halo
abbrev pub map_with_null_halo : TilePlaceValue → RegionValue → Grid → Grid
map_with_null_halo p region m = record {
  region = region;
  rows = null_rows p (halo_rows_above p) ++ (map (row_with_null_halo p) m.rows ++ null_rows p (halo_rows_below p));
  labels = empty_category_labels;
}

-- the place is valid, and the region has as many rows and columns as its maps
pub record IsPlaceOfMaps (p : TilePlaceValue) (region : RegionValue) : Type 0 where
  pub valid : IsValidTilePlace p
  pub rows : region.rows ≡ p.outer.rows
  pub cols : region.cols ≡ p.outer.cols

-- the place is a place of the maps `outer`, and `inner` has these maps without their halo
pub record IsTileOfShelf (p : TilePlaceValue) (outer inner : ShelfValue) : Type 0 where
  pub covers : IsPlaceOfMaps p outer.region
  pub without_halo : inner ≡ tile_shelf p outer
