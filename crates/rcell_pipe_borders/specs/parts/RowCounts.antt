-- Rows of tiles.
use Rattle.std.specs.Prelude.{ℕ, List}
use Rattle.cell_join_tiles.specs.Values.{TileBorderValue}
use Rattle.cell_join_tiles.specs.parts.RowMarks.{TilesHaveRowCount}

-- the tiles of a row have one number of rows
abbrev pub TilesHaveSameRowCount : List TileBorderValue → Type 0
TilesHaveSameRowCount row = (rows : ℕ) × TilesHaveRowCount rows row
