-- Cells read within one line.
use Rattle.std.specs.Prelude.{ℕ, ◌≡◌, ◌≤◌, List, drop, take, length}
use Rattle.cell_core.specs.Grid.{CellValue}
use Rattle.cell_ascii_meaning.specs.Header.{GridHeaderContents}
use Rattle.cell_ascii.specs.BufferedCells.{BytesHoldNextCells}

-- the row starts with the next cells of these bytes, and the rest is unchanged; `read` holds the number of cells and
-- bytes that were read
pub record AreCellsOfLineReadIntoRow (h : GridHeaderContents) (bs : List ℕ) (old new : List CellValue) (read : ℕ
    × ℕ) : Type 0 where
  pub cells : BytesHoldNextCells h bs (take read.0 new) read.0 read.1
  pub count : read.0 ≤ length old
  pub within : read.1 ≤ length bs
  pub rest : drop read.0 new ≡ drop read.0 old
