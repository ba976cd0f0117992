-- Rows of tiles of one height, and their numbers of rows and columns.
use Rattle.std.proofs.Common.{◌≡◌, ◌∙◌, ℕ, zero, suc, ◌+◌, ◌<◌, ◌==◌, List, [], ◌∷◌, ◌++◌, length, true, refl, sym}
use Rattle.std.proofs.Common.{ap, arith}
use Rattle.std.proofs.lemmas.Bool.{eqb-true}
use Rattle.std.proofs.lemmas.List.{map_push}
use Rattle.std.proofs.lemmas.List.Sums.{sum_by_push}
use Rattle.std.specs.Prelude.{Vec}
use Rattle.std.specs.Global.{Global}
use Rattle.cell_join_tiles.specs.Values.{TileBorderValue, value_of_tile_border, values_of_tile_borders}
use Rattle.cell_join_tiles.specs.declared.border.TileBorder.{TileBorder}
use Rattle.cell_join_tiles.specs.parts.RowMarks.{TilesHaveRowCount}
use Rattle.rcell_pipe_borders.specs.BorderGrids.{left_tiles_have_row_count, column_count_of_tiles, row_count_of_tiles}
use Rattle.rcell_pipe_borders.specs.BorderGrids.{borders_as_values, row_count_of_tile_rows}
use Rattle.rcell_pipe_borders.specs.parts.RowCounts.{TilesHaveSameRowCount}

even-more : (rows : ℕ) (row : List TileBorderValue) (tile : TileBorderValue) → TilesHaveRowCount rows row
    → length tile.begun ≡ rows
    → TilesHaveRowCount rows (row ++ tile ∷ [])
even-more rows [] tile even is zero within = is
even-more rows [] tile even is (suc c) within = absurd (omega (arith, within))
even-more rows (t ∷ ts) tile even is zero within = even 0 (omega arith)
even-more rows (t ∷ ts) tile even is (suc c) within =
    even-more rows ts tile (λ d lt. even (suc d) (omega (arith, lt))) is c (omega (arith, within))

-- one more tile with the rows of the tiles on its left
pub one-height-more : (row : List TileBorderValue) (tile : TileBorderValue)
    → left_tiles_have_row_count row (length tile.begun) ≡ true
    → TilesHaveSameRowCount row → TilesHaveSameRowCount (row ++ tile ∷ [])
one-height-more [] tile same height =
    (length tile.begun, even-more (length tile.begun) [] tile (λ c within. absurd (omega (arith, within))) refl)
one-height-more (t ∷ ts) tile same height = (
  height.0,
  even-more height.0 (t ∷ ts) tile height.1
      (sym (eqb-true (length t.begun) (length tile.begun) same) ∙ height.1 0 (omega arith)),
)

-- one more tile has the rows of the tiles on its left, if any
rows-of-last : (row : List TileBorderValue) (tile : TileBorderValue)
    → left_tiles_have_row_count row (length tile.begun) ≡ true
    → row_count_of_tiles (row ++ tile ∷ []) ≡ length tile.begun
rows-of-last [] tile same = refl
rows-of-last (t ∷ ts) tile same = eqb-true (length t.begun) (length tile.begun) same

-- the rows and columns of a row after one more tile
pub rows-with-tile : (row new : List TileBorder) (tile : TileBorder) → new ≡ row ++ tile ∷ []
    → left_tiles_have_row_count (values_of_tile_borders row) (length (value_of_tile_border tile).begun) ≡ true
    → row_count_of_tiles (values_of_tile_borders new) ≡ length (value_of_tile_border tile).begun
rows-with-tile row new tile more same =
    ap (λ tiles. row_count_of_tiles (values_of_tile_borders tiles)) more
    ∙ ap row_count_of_tiles (map_push value_of_tile_border row tile)
    ∙ rows-of-last (values_of_tile_borders row) (value_of_tile_border tile) same

pub columns-with-tile : (row new : List TileBorder) (tile : TileBorder) → new ≡ row ++ tile ∷ []
    → column_count_of_tiles (values_of_tile_borders new)
    ≡ column_count_of_tiles (values_of_tile_borders row) + length (value_of_tile_border tile).first.cells
columns-with-tile row new tile more =
    ap (λ tiles. column_count_of_tiles (values_of_tile_borders tiles)) more
    ∙ ap column_count_of_tiles (map_push value_of_tile_border row tile)
    ∙ sum_by_push (λ t. length t.first.cells) (values_of_tile_borders row) (value_of_tile_border tile)

-- the rows of a grid after one more row of tiles
pub rows-with-row : (grid new : List (Vec TileBorder Global)) (row : Vec TileBorder Global) → new ≡ grid ++ row ∷ []
    → row_count_of_tile_rows (borders_as_values new)
    ≡ row_count_of_tile_rows (borders_as_values grid) + row_count_of_tiles (values_of_tile_borders row.items)
rows-with-row grid new row more =
    ap (λ rows. row_count_of_tile_rows (borders_as_values rows)) more
    ∙ ap row_count_of_tile_rows (map_push (λ row. values_of_tile_borders row.items) grid row)
    ∙ sum_by_push row_count_of_tiles (borders_as_values grid) (values_of_tile_borders row.items)
