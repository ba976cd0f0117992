-- Where a tile is in the full map (profile).
use Rattle.std.specs.Prelude.{ℕ, ◌≤◌, ◌<◌, ◌+◌, Bool, ◌&&◌, nat_le, Option, Some, None, if◌then◌else◌}
use Rattle.cell_core_values.specs.Region.{most_cells}
use Rattle.cell_join_numbers.specs.Parts.{Rectangle}

-- the size of the full map, the rectangle that the maps of the tile cover with their halo, and the tile without halo
pub record TilePlaceValue : Type 0 where
  pub rows : ℕ
  pub cols : ℕ
  pub outer : Rectangle
  pub tile : Rectangle

-- the rectangle of the full map
abbrev pub full_rectangle : TilePlaceValue → Rectangle
full_rectangle p = record { top = 0; left = 0; rows = p.rows; cols = p.cols }

-- the first rectangle contains the second
abbrev pub contains_rectangle : Rectangle → Rectangle → Bool
contains_rectangle a b = (nat_le a.top b.top && nat_le (b.top + b.rows) (a.top + a.rows))
    && (nat_le a.left b.left && nat_le (b.left + b.cols) (a.left + a.cols))

-- the tile has cells, the maps contain it, and the full map contains the maps and has at most 2147483647 rows and
-- columns
abbrev pub is_valid_tile_place : TilePlaceValue → Bool
is_valid_tile_place p = ((nat_le 1 p.tile.rows && nat_le 1 p.tile.cols) && contains_rectangle p.outer p.tile)
    && (contains_rectangle (full_rectangle p) p.outer && (nat_le p.rows most_cells && nat_le p.cols most_cells))

-- the place, if it is valid
abbrev pub valid_tile_place : TilePlaceValue → Option TilePlaceValue
valid_tile_place p = if is_valid_tile_place p then Some p else None

-- the facts about a rectangle that contains another
pub record ContainsRectangle (a b : Rectangle) : Type 0 where
  pub top : a.top ≤ b.top
  pub bottom : b.top + b.rows ≤ a.top + a.rows
  pub left : a.left ≤ b.left
  pub right : b.left + b.cols ≤ a.left + a.cols

-- the facts about a valid place
pub record IsValidTilePlace (p : TilePlaceValue) : Type 0 where
  pub rows_least : 0 < p.tile.rows
  pub cols_least : 0 < p.tile.cols
  pub tile : ContainsRectangle p.outer p.tile
  pub outer : ContainsRectangle (full_rectangle p) p.outer
  pub rows_most : p.rows ≤ most_cells
  pub cols_most : p.cols ≤ most_cells
