-- Words that were read before, looked up by their bytes, and blanks as bits of a number.
use Rattle.std.specs.Prelude.{ℕ, zero, suc, ◌+◌, ◌-◌, ◌*◌, ◌/◌, ◌^◌, ◌≡◌, ◌<◌, ◌≤◌, Bool, false, List, [], ◌∷◌, map, length, take, drop, slice_set, Ok}
use Rattle.std.specs.Simd.Lanes.{digits_l}
use Rattle.cell_core_devices.specs.Device.{ComingBytes}
use Rattle.cell_core.specs.Grid.{CellValue}
use Rattle.cell_ascii_reading.specs.Ahead.{bytes_to_come_with_prefix}
use Rattle.cell_ascii_meaning.specs.GridTokens.{is_line_feed, is_space}
use Rattle.cell_ascii_meaning.specs.Header.{GridHeaderContents}
use Rattle.cell_ascii_meaning.specs.CellTexts.{next_cell_after_position, cell_of_word, position_without_pending_word}
use Rattle.cell_ascii_meaning.specs.CellTexts.{items_read_one_after_another}
use Rattle.cell_ascii.specs.declared.word_table.WordTableEntry.{WordTableEntry}

-- the top `size` bytes of a 64-bit number
abbrev pub top_bytes_of_number : ℕ → ℕ → List ℕ
top_bytes_of_number key size = digits_l 256 size (key / 2 ^ (64 - 8 * size))

-- an entry is free, or contains the cell of the word that its bytes spell
abbrev pub WordEntryIsFreeOrHoldsCell : GridHeaderContents → WordTableEntry → Type 0
WordEntryIsFreeOrHoldsCell h e = 0 < e.size → cell_of_word h (top_bytes_of_number e.key e.size) ≡ Ok e.cell

-- the row contains the word's cell at index `i`, and is otherwise unchanged
pub record IsWordCellPutInRow (h : GridHeaderContents) (word : List ℕ) (i : ℕ) (old new : List CellValue) : Type 0 where
  pub cell : CellValue
  pub is : cell_of_word h word ≡ Ok cell
  pub row : new ≡ slice_set old i cell

-- flags that mark the blanks and line feeds among the first 64 bytes
abbrev pub blanks : List ℕ → List Bool
blanks bs = map is_space (take 64 bs)

-- flags that mark the line feeds among the first 64 bytes
abbrev pub feeds : List ℕ → List Bool
feeds bs = map is_line_feed (take 64 bs)

-- the list with its first n flags cleared
abbrev pub flags_with_first_cleared : ℕ → List Bool → List Bool
flags_with_first_cleared zero ms = ms
flags_with_first_cleared (suc n) [] = []
flags_with_first_cleared (suc n) (m ∷ ms) = false ∷ flags_with_first_cleared n ms

-- like `BytesHoldNextCells`, for bytes that contain `lines` line feeds
abbrev pub BytesHoldNextCellsAndLineFeeds : GridHeaderContents → List ℕ → List CellValue → ℕ → ℕ → ℕ → Type 0
BytesHoldNextCellsAndLineFeeds h bs cells count n lines = (line : ℕ) (c : ComingBytes)
    → items_read_one_after_another (next_cell_after_position h) count (position_without_pending_word line 0 (bytes_to_come_with_prefix bs c)) ≡ Ok (cells, position_without_pending_word (line + lines) 0 (bytes_to_come_with_prefix (drop n bs) c))

-- the row starts with the next cells of these bytes, and the rest is unchanged; `read` holds the number of cells, bytes
-- and line feeds that were read
pub record AreNextCellsReadIntoRow (h : GridHeaderContents) (bs : List ℕ) (old new : List CellValue) (read : ℕ × ℕ
    × ℕ) : Type 0 where
  pub cells : BytesHoldNextCellsAndLineFeeds h bs (take read.0 new) read.0 read.1 read.2
  pub count : read.0 ≤ length old
  pub within : read.1 ≤ length bs
  pub among : read.2 ≤ read.1
  pub lines : read.2 ≤ read.0 * 64
  pub rest : drop read.0 new ≡ drop read.0 old
