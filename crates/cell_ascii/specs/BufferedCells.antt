-- Cells whose bytes are buffered: a space, a word, and the byte that ends it.
use Rattle.std.specs.Prelude.{ℕ, zero, suc, ◌+◌, ◌-◌, ◌*◌, ◌≡◌, ◌<◌, ◌≤◌, true, List, drop, take, length, slice_index_or, Ok}
use Rattle.std.specs.List.{list_all}
use Rattle.cell_core_devices.specs.Device.{ComingBytes}
use Rattle.cell_core.specs.Grid.{CellValue}
use Rattle.cell_ascii_reading.specs.Ahead.{bytes_to_come_with_prefix}
use Rattle.cell_ascii_meaning.specs.GridTokens.{is_space}
use Rattle.cell_ascii_meaning.specs.EdgeNumbers.{is_digit, value_of_digits}
use Rattle.cell_ascii_meaning.specs.Header.{GridHeaderContents}
use Rattle.cell_ascii_meaning.specs.CellTexts.{next_cell_after_position, cell_of_word, position_without_pending_word}
use Rattle.cell_ascii_meaning.specs.CellTexts.{items_read_one_after_another}

-- with any continuation of these bytes, the next cell is `v` and reading it consumes the first n bytes
abbrev pub BytesHoldNextCell : GridHeaderContents → List ℕ → CellValue → ℕ → Type 0
BytesHoldNextCell h bs v n = (line run : ℕ) → run < 1048576 → (c : ComingBytes)
    → next_cell_after_position h (position_without_pending_word line run (bytes_to_come_with_prefix bs c))
    ≡ Ok (v, position_without_pending_word line 0 (bytes_to_come_with_prefix (drop n bs) c))

-- the first n bytes and the byte that ends the word are enough to determine the cell
abbrev pub FirstBytesDetermineCell : GridHeaderContents → List ℕ → CellValue → ℕ → Type 0
FirstBytesDetermineCell h bs v n = BytesHoldNextCell h (take (n + 1) bs) v n

-- the length of the run of blanks and line feeds after the first `count` cells
abbrev pub blank_run_length_after_cells : ℕ → ℕ → ℕ
blank_run_length_after_cells run zero = run
blank_run_length_after_cells run (suc count) = 0

-- with any continuation of these bytes, the next `count` cells are `cells`, and reading them consumes the first n bytes
abbrev pub BytesHoldNextCells : GridHeaderContents → List ℕ → List CellValue → ℕ → ℕ → Type 0
BytesHoldNextCells h bs cells count n = (line run : ℕ) → run < 1048576 → (c : ComingBytes)
    → items_read_one_after_another (next_cell_after_position h) count (position_without_pending_word line run (bytes_to_come_with_prefix bs c)) ≡ Ok (cells, position_without_pending_word line (blank_run_length_after_cells run count) (bytes_to_come_with_prefix (drop n bs) c))

-- the first n bytes, without the leading space
abbrev pub first_bytes_without_space : List ℕ → ℕ → List ℕ
first_bytes_without_space bs n = take (n - 1) (drop 1 bs)

-- the first n bytes contain the next word, which alone determines the next cell
abbrev pub FirstBytesHoldNextWord : List ℕ → ℕ → Type 0
FirstBytesHoldNextWord bs n = (h : GridHeaderContents) (v : CellValue)
    → cell_of_word h (first_bytes_without_space bs n) ≡ Ok v
    → FirstBytesDetermineCell h bs v n

-- the first n bytes are digits with this value, and the next byte ends the word
pub record BytesStartWithNumber (bs : List ℕ) (value n : ℕ) : Type 0 where
  pub some : 0 < n
  pub few : n ≤ 9
  pub within : n < length bs
  pub digits : list_all is_digit (take n bs) ≡ true
  pub sum : value ≡ value_of_digits (take n bs)
  pub ends : is_space (slice_index_or bs n 0) ≡ true

-- the first n bytes and the byte after them occur `times` more times, every n bytes
abbrev pub FirstBytesAreRepeated : List ℕ → ℕ → ℕ → Type 0
FirstBytesAreRepeated bs n times = (i : ℕ) → i ≤ times → take (n + 1) (drop (i * n) bs) ≡ take (n + 1) bs
