-- Reading a grid text, or a section of it, fails with the error of the first place that reports one.
use Rattle.std.specs.Prelude.{ℕ, ◌≡◌, ◌<◌, List, ◌↔◌, ◌⊎◌, Some, None, Ok, Err}
use Rattle.cell_core_devices.specs.Device.{ComingBytes}
use Rattle.cell_core.specs.Grid.{CellValue, Grid}
use Rattle.cell_ascii_meaning.specs.GridTokens.{next_word_start}
use Rattle.cell_ascii_meaning.specs.Header.{DataPosition, GridHeaderContents, HeaderAndDataStart, header_of_text}
use Rattle.cell_ascii_meaning.specs.CellTexts.{next_cell_after_position, items_read_one_after_another}
use Rattle.cell_ascii_meaning.specs.CellTexts.{text_end_or_fault, map_denoted_by_text}
use Rattle.cell_ascii_meaning.specs.GridText.{SourceDenotesMap}
use Rattle.cell_ascii_meaning.specs.FaultPlaces.{first_fault_of_text, first_fault_up_to_first_data_token}
use Rattle.cell_ascii_meaning.specs.RowPlaces.{IsValidDataPosition, first_fault_of_next_cells}
use Rattle.cell_ascii_meaning.specs.RowPlaces.{first_fault_after_last_cell}
use Rattle.cell_ascii_meaning.specs.declared.grid_fault.GridFault.{GridFault}

-- reading a text fails exactly with the first error that the error table reports
abbrev pub TextReadFailsWithFirstFault : Type 0
TextReadFailsWithFirstFault = (c : ComingBytes) (f : GridFault) → (map_denoted_by_text c ≡ Err f)
    ↔ (first_fault_of_text c ≡ Some f)

-- reading the header of a text, up to the end of its first data token, fails exactly with the first error reported up
-- to there
abbrev pub HeaderReadFailsWithFirstFault : Type 0
HeaderReadFailsWithFirstFault = (c : ComingBytes) (f : GridFault) → (header_of_text c ≡ Err f)
    ↔ (first_fault_up_to_first_data_token c ≡ Some f)

-- reading the next cells from a position after the header fails exactly with the first error reported up to their end
abbrev pub CellReadFailsWithFirstFault : Type 0
CellReadFailsWithFirstFault = (h : GridHeaderContents) (count : ℕ) (at : DataPosition) (f : GridFault) → IsValidDataPosition at → (items_read_one_after_another (next_cell_after_position h) count at ≡ Err f) ↔ (first_fault_of_next_cells h count at ≡ Some f)

-- reading the end fails exactly with the first error reported up to the first byte of a token
abbrev pub EndReadFailsWithFirstFault : Type 0
EndReadFailsWithFirstFault = (at : DataPosition) (f : GridFault) → IsValidDataPosition at → at.pending ≡ None → (text_end_or_fault (next_word_start at.line at.run at.coming) ≡ Err f) ↔ (first_fault_after_last_cell at ≡ Some f)

-- reading a header ends at a valid position
abbrev pub HeaderReadEndsAtValidPosition : Type 0
HeaderReadEndsAtValidPosition = (c : ComingBytes) (o : HeaderAndDataStart) → header_of_text c ≡ Ok o
    → IsValidDataPosition o.at

-- reading cells ends at a valid position, without a pending token
abbrev pub CellReadEndsAtValidPosition : Type 0
CellReadEndsAtValidPosition = (h : GridHeaderContents) (count : ℕ) (at : DataPosition) (x : List CellValue × DataPosition) → IsValidDataPosition at → items_read_one_after_another (next_cell_after_position h) count at ≡ Ok x → IsValidDataPosition x.1 × (0 < count → x.1.pending ≡ None)

-- the text denotes exactly one map, and no place reports an error
pub record IsGridTextOfOneMap (c : ComingBytes) : Type 0 where
  pub map : Grid
  pub denotes : SourceDenotesMap c map
  pub alone : (other : Grid) → SourceDenotesMap c other → other ≡ map
  pub silent : first_fault_of_text c ≡ None

-- some place reports an error, and the text denotes no map
pub record IsFaultyGridText (c : ComingBytes) : Type 0 where
  pub fault : GridFault
  pub reported : first_fault_of_text c ≡ Some fault
  pub none : (map : Grid) → SourceDenotesMap c map → ⊥

-- each text either denotes exactly one map and has no error, or has an error and denotes no map
abbrev pub EachTextHasMapOrFault : Type 0
EachTextHasMapOrFault = (c : ComingBytes) → IsGridTextOfOneMap c ⊎ IsFaultyGridText c
