-- The law about errors in grid texts.
use Rattle.std.proofs.Common.{◌≡◌, ◌↔◌, Bool, true, false, [], Option, Some, refl, ap, sym, ◌∙◌, arith, Result, Ok, Err, ◌⊎◌, inl, inr}
use Rattle.cell_core_devices.specs.Device.{ComingBytes}
use Rattle.cell_core.specs.Grid.{Grid}
use Rattle.cell_ascii_meaning.specs.Header.{HeaderAndDataStart, empty_header_key_values, header_of_text, ◌>>=◌}
use Rattle.cell_ascii_meaning.specs.GridTokens.{next_word_start}
use Rattle.cell_ascii_meaning.specs.CellTexts.{next_cell_after_position, items_read_one_after_another}
use Rattle.cell_ascii_meaning.specs.CellTexts.{text_end_or_fault, map_denoted_by_text}
use Rattle.cell_ascii_meaning.specs.RowPlaces.{first_fault_of_next_cells, first_fault_after_last_cell}
use Rattle.cell_ascii_law_faults.proofs.PlaceKeptLemmas.{header_kept, cells_kept}
use Rattle.cell_ascii_law_faults.proofs.RowPlaceLemmas.{cells_reported, end_reported}
use Rattle.cell_ascii_meaning.specs.FaultPlaces.{first_fault_in_rest_of_text, first_fault_of_text}
use Rattle.cell_ascii_meaning.specs.FaultPlaces.{first_fault_up_to_first_data_token}
use Rattle.cell_ascii_law_faults.specs.FaultLaw.{HeaderReadEndsAtValidPosition, CellReadEndsAtValidPosition, HeaderReadFailsWithFirstFault, CellReadFailsWithFirstFault, EndReadFailsWithFirstFault, TextReadFailsWithFirstFault, EachTextHasMapOrFault, IsGridTextOfOneMap, IsFaultyGridText}
use Rattle.cell_ascii_meaning.specs.declared.grid_fault.GridFault.{GridFault}
use Rattle.cell_ascii_law_faults.proofs.SeenLemmas.{first_is}
use Rattle.cell_ascii_law_faults.proofs.PlaceDataLemmas.{fault_in}
use Rattle.cell_ascii_law_faults.proofs.PlaceHeaderLemmas.{fault_after, header_is}
use Rattle.cell_ascii_law_faults.proofs.PlaceWordLemmas.{table_of}
use Rattle.cell_ascii_law.proofs.HeaderLawLemmas.{read_opened}
use Rattle.cell_ascii_law.proofs.GridLawLemmas.{reading_agrees}

-- the first error reported in a text is the error of reading its header and data
reported_is : (w : Bool) (c : ComingBytes)
    → fault_after w (header_of_text c) ≡ first_fault_in_rest_of_text (table_of w) [] c.bytes c.fails
reported_is w c = header_is w 10 empty_header_key_values (omega arith) [] (refl, refl) 1 0 c.bytes c.fails (omega arith) ∙ sym (first_is (table_of w) c.bytes [] c.fails)

-- the error of reading a text is the error of the first place that reports one
fault_is : (c : ComingBytes) → fault_in (map_denoted_by_text c) ≡ first_fault_of_text c
unfolding map_denoted_by_text
fault_is c = by (header_of_text c) ∙ reported_is true c
  where
    by : (r : Result HeaderAndDataStart GridFault) → fault_in (r >>= read_opened) ≡ fault_after true r
    by (Ok o) = refl
    by (Err e) = refl

-- the error of opening a text is the first error that the opening reports
opening_is : (c : ComingBytes) → fault_in (header_of_text c) ≡ first_fault_up_to_first_data_token c
opening_is c = by (header_of_text c) ∙ reported_is false c
  where
    by : (r : Result HeaderAndDataStart GridFault) → fault_in r ≡ fault_after false r
    by (Ok o) = refl
    by (Err e) = refl

-- a reading fails with an error exactly if that error is reported
is_reported : {X : Type 0} (r : Result X GridFault) (o : Option GridFault) → fault_in r ≡ o → (f : GridFault) → (r ≡ Err f) ↔ (o ≡ Some f)
is_reported {X} r o reported f = (λ e. sym reported ∙ ap fault_in e, λ e. by r (reported ∙ e))
  where
    by : (r : Result X GridFault) → fault_in r ≡ Some f → r ≡ Err f
    by (Ok x) e = cc
    by (Err g) e = cc

pub opening_agrees : HeaderReadFailsWithFirstFault
opening_agrees c f = is_reported (header_of_text c) (first_fault_up_to_first_data_token c) (opening_is c) f

pub cells_agree : CellReadFailsWithFirstFault
cells_agree h count at f is = is_reported (items_read_one_after_another (next_cell_after_position h) count at) (first_fault_of_next_cells h count at) (cells_reported h count at is) f

pub end_agrees : EndReadFailsWithFirstFault
end_agrees at f is none = is_reported (text_end_or_fault (next_word_start at.line at.run at.coming)) (first_fault_after_last_cell at) (end_reported at none is.low) f

pub faults_agree : TextReadFailsWithFirstFault
faults_agree c f = is_reported (map_denoted_by_text c) (first_fault_of_text c) (fault_is c) f

pub texts_are_judged : EachTextHasMapOrFault
texts_are_judged c = by (map_denoted_by_text c) refl
  where
    by : (r : Result Grid GridFault) → map_denoted_by_text c ≡ r → IsGridTextOfOneMap c ⊎ IsFaultyGridText c
    by (Ok m) e = inl (record { map = m; denotes = (reading_agrees c m).0 e; alone = λ other is. (let o : Ok other ≡ Ok m = sym ((reading_agrees c other).1 is) ∙ e in cc); silent = sym (fault_is c) ∙ ap fault_in e })
    by (Err f) e = inr (record { fault = f; reported = sym (fault_is c) ∙ ap fault_in e; none = λ m is. (let o : Ok m ≡ Err f = sym ((reading_agrees c m).1 is) ∙ e in cc) })

pub opening_keeps_places : HeaderReadEndsAtValidPosition
opening_keeps_places c o e = header_kept 10 empty_header_key_values 1 0 c o e

pub cells_keep_places : CellReadEndsAtValidPosition
cells_keep_places h count at x is e = cells_kept h count at x is e
