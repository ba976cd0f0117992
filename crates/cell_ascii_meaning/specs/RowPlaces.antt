-- The error of a text that is read row by row after its header (profile): the rows of the error table that concern the
-- data.
use Rattle.std.specs.Prelude.{ℕ, ◌+◌, ◌≡◌, ◌≤◌, Bool, true, false, ◌&&◌, ◌||◌, ◌==◌, not, nat_lt, List, [], ◌∷◌, ◌++◌, length, Option, None, Ok, if◌then◌else◌, IsTrue, IfSome}
use Rattle.std.specs.List.{list_all}
use Rattle.std.specs.Option.{option_map, unwrap_or}
use Rattle.cell_core_devices.specs.Device.{ComingBytes}
use Rattle.cell_ascii_meaning.specs.GridTokens.{is_space, is_word_byte, line_feed_count, grid_fault_at_line}
use Rattle.cell_ascii_meaning.specs.Header.{GridHeaderContents, DataPosition}
use Rattle.cell_ascii_meaning.specs.GridText.{is_nonempty_word, words_of_grid_text}
use Rattle.cell_ascii_meaning.specs.FaultPlaces.{ByteOrTextEndOrFailedRead, Byte, End, Fails, is_empty, gap_length_before_place, unfinished_token_before_place, fault_kind_if, ◌or◌, long_token_fault, too_many_blanks_fault, cell_fault_at_token_end, failed_read_fault}
use Rattle.cell_ascii_meaning.specs.declared.grid_fault.GridKind.{GridKind}
use Rattle.cell_ascii_meaning.specs.declared.grid_fault.GridKind.TheVariants.{TooFew, TooMany}
use Rattle.cell_ascii_meaning.specs.declared.grid_fault.GridFault.{GridFault}

-- the error at each place, given the gap before it, the token that may continue, and the words so far
abbrev pub CellFaultTable : Type 0
CellFaultTable = ℕ → List ℕ → List (List ℕ) → ByteOrTextEndOrFailedRead → Option GridKind

-- `TooFew` at the end of the text before `count` cells were read
abbrev pub too_few_cells_fault_at_text_end : ℕ → List (List ℕ) → ByteOrTextEndOrFailedRead → Option GridKind
too_few_cells_fault_at_text_end count words (Byte b) = None
too_few_cells_fault_at_text_end count words End = fault_kind_if (nat_lt (length words) count) TooFew
too_few_cells_fault_at_text_end count words Fails = None

-- `TooMany` at the first byte of a token
abbrev pub too_many_cells_fault_at_token : List ℕ → ByteOrTextEndOrFailedRead → Option GridKind
too_many_cells_fault_at_token token (Byte b) = fault_kind_if (is_word_byte b && is_empty token) TooMany
too_many_cells_fault_at_token token End = None
too_many_cells_fault_at_token token Fails = None

-- the rows of the table that concern cells
abbrev pub cell_rows_of_fault_table : GridHeaderContents → ℕ → CellFaultTable
cell_rows_of_fault_table h count gap token words place =
    long_token_fault token place
    or too_many_blanks_fault gap place
    or cell_fault_at_token_end (Ok h) words token place
    or too_few_cells_fault_at_text_end count words place
    or failed_read_fault place

-- the place is at or before the end of the last of `count` cells
abbrev pub place_is_up_to_last_cell : ℕ → List (List ℕ) → List ℕ → Bool
place_is_up_to_last_cell count words token = nat_lt (length words) count || (is_nonempty_word token
    && length words == count)

-- the errors of the next `count` cells, and none after them
abbrev pub fault_table_of_next_cells : GridHeaderContents → ℕ → CellFaultTable
fault_table_of_next_cells h count gap token words place = if place_is_up_to_last_cell count words token then cell_rows_of_fault_table h count gap token words place else None

-- the errors after the last cell
abbrev pub fault_table_after_last_cell : CellFaultTable
fault_table_after_last_cell gap token words place = too_many_blanks_fault gap place or too_many_cells_fault_at_token
    token place or failed_read_fault place

-- the length of the run of blanks and line feeds that ends here and may have begun before these bytes
abbrev pub length_of_blank_run : ℕ → List ℕ → ℕ
length_of_blank_run run before = if list_all is_space before then run + length before else gap_length_before_place
    before

-- the error at a place that follows a position and then the bytes `before`; a pending token precedes these bytes
abbrev pub fault_reported_after_position : CellFaultTable → DataPosition → List ℕ → ByteOrTextEndOrFailedRead
    → Option GridFault
fault_reported_after_position table at before place = option_map
    (λ kind. grid_fault_at_line kind (at.line + line_feed_count before))
    (table (length_of_blank_run at.run before) (unfinished_token_before_place (unwrap_or at.pending [] ++ before)) (words_of_grid_text (unwrap_or at.pending [] ++ before)) place)

-- the first error reported after a position
abbrev pub first_fault_after_position : CellFaultTable → DataPosition → List ℕ → List ℕ → Bool → Option GridFault
first_fault_after_position table at before [] false = fault_reported_after_position table at before End
first_fault_after_position table at before [] true = fault_reported_after_position table at before Fails
first_fault_after_position table at before (b ∷ bs) fails = fault_reported_after_position table at before (Byte b) or first_fault_after_position table at (before ++ b ∷ []) bs fails

-- the first error of the next `count` cells
abbrev pub first_fault_of_next_cells : GridHeaderContents → ℕ → DataPosition → Option GridFault
first_fault_of_next_cells h count at = first_fault_after_position
    (fault_table_of_next_cells h count) at [] at.coming.bytes
    at.coming.fails

-- the first error after the last cell
abbrev pub first_fault_after_last_cell : DataPosition → Option GridFault
first_fault_after_last_cell at = first_fault_after_position fault_table_after_last_cell at [] at.coming.bytes
    at.coming.fails

-- the next byte does not continue the token
abbrev pub next_byte_does_not_extend_token : ComingBytes → Bool
next_byte_does_not_extend_token c = apart c.bytes c.fails
  where
    apart : List ℕ → Bool → Bool
    apart [] fails = not fails
    apart (b ∷ bs) fails = is_space b

-- the position is valid: the run is within the limit, and a pending token is a complete word
pub record IsValidDataPosition (at : DataPosition) : Type 0 where
  pub low : at.run ≤ 1048576
  pub token : IfSome at.pending (λ w. IsTrue (is_nonempty_word w))
  pub whole : IfSome at.pending (λ w. IsTrue (list_all is_word_byte w))
  pub apart : IfSome at.pending (λ w. IsTrue (next_byte_does_not_extend_token at.coming))
  pub fresh : IfSome at.pending (λ w. at.run ≡ 0)
