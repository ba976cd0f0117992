-- The border of a tile as lists.
use Rattle.std.specs.Prelude.{ℕ, ◌≡◌, ◌<◌, ◌^◌, List, [], length, map, All}
use Rattle.cell_core.specs.Grid.{CellValue}
use Rattle.cell_join_tiles.specs.declared.border.TileSide.{TileSide}
use Rattle.cell_join_tiles.specs.declared.border.TileBorder.{TileBorder}

-- the cells of a side of a tile, and their numbers in the tile
pub record TileSideValue : Type 0 where
  pub cells : List CellValue
  pub numbers : List CellValue

-- the border of a tile: its four sides, and the number of clumps that begin in each of its rows
pub record TileBorderValue : Type 0 where
  pub first : TileSideValue
  pub last : TileSideValue
  pub left : TileSideValue
  pub right : TileSideValue
  pub begun : List ℕ

-- a side has this number of cells, and a number for each of them
pub record TileSideHasLength (count : ℕ) (side : TileSideValue) : Type 0 where
  pub cells : length side.cells ≡ count
  pub numbers : length side.numbers ≡ count

-- the border has the lengths of a tile with `rows` × `cols` cells, and its counts fit in 32 bits
pub record TileBorderHasSize (rows cols : ℕ) (border : TileBorderValue) : Type 0 where
  pub first : TileSideHasLength cols border.first
  pub last : TileSideHasLength cols border.last
  pub left : TileSideHasLength rows border.left
  pub right : TileSideHasLength rows border.right
  pub begun : length border.begun ≡ rows
  pub few : All (λ count. count < 2 ^ 32) border.begun

abbrev pub value_of_tile_side : TileSide → TileSideValue
value_of_tile_side side = record { cells = side.cells.items; numbers = side.numbers.items }

abbrev pub value_of_tile_border : TileBorder → TileBorderValue
value_of_tile_border border = record { first = value_of_tile_side border.first; last = value_of_tile_side border.last; left = value_of_tile_side border.left; right = value_of_tile_side border.right; begun = border.begun.items }

-- the borders of a row of tiles as values
abbrev pub values_of_tile_borders : List TileBorder → List TileBorderValue
values_of_tile_borders row = map value_of_tile_border row

abbrev pub empty_tile_side : TileSideValue
empty_tile_side = record { cells = []; numbers = [] }

abbrev pub empty_tile_border : TileBorderValue
empty_tile_border = record {
  first = empty_tile_side;
  last = empty_tile_side;
  left = empty_tile_side;
  right = empty_tile_side;
  begun = [];
}
