-- The requirements for reading a word's cell into a row.
use Rattle.std.specs.Prelude.{ℕ, ◌≡◌, ◌<◌, ◌≤◌, All, List, length}
use Rattle.cell_core.specs.Grid.{CellValue}
use Rattle.cell_ascii_meaning.specs.Header.{GridHeaderContents}
use Rattle.cell_ascii.specs.declared.word_table.WordTableEntry.{WordTableEntry}
use Rattle.cell_ascii.specs.TableWords.{WordEntryIsFreeOrHoldsCell}

-- the word is the first `size` bytes, enough bytes are buffered, and the table and the row have the expected lengths
pub record CanPutWordCellInRow (h : GridHeaderContents) (bytes : List ℕ) (size : ℕ) (entries : List WordTableEntry) (i : ℕ) (row : List CellValue) : Type 0 where
  pub some : 0 < size
  pub within : size ≤ length bytes
  pub buffered : 10 ≤ length bytes
  pub room : length entries ≡ 4096
  pub known : All (WordEntryIsFreeOrHoldsCell h) entries
  pub place : i < length row
