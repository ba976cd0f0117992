-- The data is read from its rows and its end, and the text from its header and its data.
use Rattle.std.proofs.Common.{◌≡◌, ◌≢◌, IfOk, IfErr, ℕ, ℤ, ◌+◌, ◌-◌, ◌*◌, ◌<◌, ◌≤◌, List, Option, Some, None, Result, Ok, Err, Bool, false, refl, ap, sym, subst, ◌∙◌}
use Rattle.cell_core_devices.specs.Device.{ComingBytes}
use Rattle.cell_core_devices.specs.Supposed.{HoldsForAgreeingContents, EqualBeforeAndAfterReads}
use Rattle.cell_core.specs.Grid.{CellValue, Grid, empty_category_labels}
use Rattle.cell_ascii_meaning.specs.GridTokens.{next_word_start}
use Rattle.cell_core_values.specs.Region.{RegionValue, region_or_first_fault}
use Rattle.cell_core_values.specs.declared.region.RegionFault.{RegionFault}
use Rattle.cell_ascii_meaning.specs.Header.{◌>>=◌, DataPosition, result_with_line_in_fault, GridHeaderContents, HeaderKeyValues, header_of_keys_and_region, empty_header_key_values, header_defined_by_keys, rest_of_header_from_line, header_of_text}
use Rattle.cell_ascii_meaning.specs.Kinds.{IsFaultOfText, is_failed_read}
use Rattle.cell_ascii_meaning.specs.CellTexts.{ReadValueAndPositionOrFault, next_cell_after_position}
use Rattle.cell_ascii_meaning.specs.CellTexts.{items_read_one_after_another, text_end_or_fault}
use Rattle.cell_ascii_meaning.specs.CellTexts.{data_rows_to_text_end, map_denoted_by_text}
use Rattle.cell_ascii.specs.Reader.{rows_read_from_position}
use Rattle.cell_ascii_meaning.specs.FaultPlaces.{first_fault_up_to_first_data_token, first_fault_of_text}
use Rattle.cell_ascii_meaning.specs.GridText.{SourceDenotesMap}
use Rattle.cell_ascii_meaning.specs.RowPlaces.{IsValidDataPosition, first_fault_after_last_cell}
use Rattle.cell_ascii.specs.GridReaders.{GridReaderValue, position_of_grid_reader, header_and_data_start_of_reader}
use Rattle.cell_ascii.specs.GridReaders.{fault_of_reading_result, EqualsReadingUnlessOutOfMemory}
use Rattle.cell_ascii.specs.parts.Unread.{MapHoldsAllRemainingRows}
use Rattle.cell_ascii_reading.specs.Ahead.{bytes_to_come_for_content}
use Rattle.cell_ascii_reading.specs.Opening.{header_from_call_result}
use Rattle.cell_ascii_meaning.specs.declared.grid_fault.GridFault.{GridFault}
use Rattle.cell_ascii_meaning.specs.declared.grid_fault.GridKind.{GridKind}
use Rattle.cell_ascii_meaning.specs.declared.grid_fault.GridKind.TheVariants.{MissingKey, Region, Memory}
use Rattle.cell_ascii_reading.proofs.MapLemmas.{known}
use Rattle.cell_ascii_reading.proofs.LeadLemmas.{Contents, implied, lead_then, known_result}
use Rattle.cell_ascii.proofs.CellLemmas.{with_front, more_fails}
use Rattle.cell_ascii.proofs.ManyLemmas.{rows_cut}
use Rattle.cell_ascii_law.proofs.GridLawLemmas.{reading_agrees}
use Rattle.cell_ascii_law_faults.proofs.GridFaultLemmas.{opening_agrees, opening_keeps_places, faults_agree}
use Rattle.cell_ascii.proofs.RowReadLemmas.{rows_kept, end_is}

abbrev then_end : ReadValueAndPositionOrFault (List (List CellValue)) → Result (List (List CellValue)) GridFault
then_end r = r >>= (λ x. text_end_or_fault (next_word_start x.1.line x.1.run x.1.coming) >>= (λ _. Ok x.0))

-- an error among the next rows is the error of the reading
pub rows_fail : (h : GridHeaderContents) (F : ComingBytes → ReadValueAndPositionOrFault (List (List CellValue)))
    (a b d : Contents)
    (front : List (List CellValue)) (n i k : ℕ) (here : ComingBytes → DataPosition) (f : GridFault) → i + k ≤ n
    → EqualBeforeAndAfterReads F a (λ c. with_front front (items_read_one_after_another
    (items_read_one_after_another (next_cell_after_position h) h.region.cols) (n - i)
    (here c))) b
    → HoldsForAgreeingContents b d (λ c. items_read_one_after_another (next_cell_after_position h) (k * h.region.cols)
    (here c) ≡ Err f)
    → HoldsForAgreeingContents a d (λ c. F c ≡ Err f)
rows_fail h F a b d front n i k here f within so_far fails =
    let rows = items_read_one_after_another (items_read_one_after_another
    (next_cell_after_position h) h.region.cols) k in
    let cut = implied (λ c. items_read_one_after_another (next_cell_after_position h) (k * h.region.cols) (here c)
    ≡ Err f)
    (λ c. rows (here c) ≡ Err f) b d (λ c. rows_cut (next_cell_after_position h) h.region.cols k (here c) f) fails in
    known F (λ _. Err f) a d (Err f)
    (more_fails (items_read_one_after_another (next_cell_after_position h) h.region.cols) F a b d front n i k here
    within so_far f (known_result
    (λ c. rows (here c)) b d (Err f) cut))
    (λ c. refl)

-- after all rows, the result of the end is the result of the data
data_ends : (h : GridHeaderContents) (here there : DataPosition) (all : List (List CellValue))
    (end : Result (Unit {0}) GridFault) (v : Result (List (List CellValue)) GridFault)
    → 0 < h.region.cols → 0 < h.region.rows → IsValidDataPosition here
    → rows_read_from_position h here ≡ Ok (all, there)
    → fault_of_reading_result end ≡ first_fault_after_last_cell there → (end >>= (λ _. Ok all)) ≡ v
    → data_rows_to_text_end h here ≡ v
data_ends h here there all end v wide high placed rows reported is =
    let kept = rows_kept h h.region.cols wide h.region.rows here (all, there) placed rows in
    ap then_end rows ∙ ap (λ (r : Result (Unit {0}) GridFault). r >>= (λ _. Ok all))
    (end_is there end kept.0 (kept.1 high) reported) ∙ is

-- a text whose header and data are known has the result of the data
text_step : (p : GridReaderValue) (v : Result (List (List CellValue)) GridFault) (w : Result Grid GridFault)
    (x y : ComingBytes)
    → (v >>= (λ rows. Ok (record { region = p.header.region; rows = rows; labels = empty_category_labels }))) ≡ w
    → header_of_text x ≡ Ok (header_and_data_start_of_reader p y)
    → data_rows_to_text_end p.header (position_of_grid_reader p y) ≡ v → map_denoted_by_text x ≡ w
unfolding map_denoted_by_text
text_step p v w x y is e f = rw (e, f) is

module _ (p : GridReaderValue) (a : Contents)
    (opened : EqualBeforeAndAfterReads header_of_text a (λ c. Ok (header_and_data_start_of_reader p c))
    (bytes_to_come_for_content p.ahead)) where
  -- an error of the rows is the error of the text, under the premise of that error
  pub rows_fault : (d : Contents) (f : GridFault) (M : Type 0)
      → HoldsForAgreeingContents (bytes_to_come_for_content p.ahead) d
      (λ c. M → rows_read_from_position p.header (position_of_grid_reader p c) ≡ Err f)
      → HoldsForAgreeingContents a d (λ c. M → map_denoted_by_text c ≡ Err f)
  rows_fault d f M fails =
      lead_then header_of_text (λ c. Ok (header_and_data_start_of_reader p c)) a (bytes_to_come_for_content p.ahead) d
      (λ c. M → rows_read_from_position p.header (position_of_grid_reader p c) ≡ Err f) (λ c. M
      → map_denoted_by_text c ≡ Err f)
      (λ x y o fault premise. text_step p (Err f) (Err f) x y refl o (ap then_end (fault premise)))
      opened fails

  module _ (s : GridReaderValue) (m : Grid) (is : MapHoldsAllRemainingRows m p s) (d : Contents) where
    ends : (end : Result (Unit {0}) GridFault) (v : Result (List (List CellValue)) GridFault)
        (w : Result Grid GridFault)
        → HoldsForAgreeingContents (bytes_to_come_for_content s.ahead) d (λ c. fault_of_reading_result end
        ≡ first_fault_after_last_cell (position_of_grid_reader s c))
        → (end >>= (λ _. Ok m.rows)) ≡ v
        → (v >>= (λ rows. Ok (record { region = p.header.region; rows = rows; labels = empty_category_labels }))) ≡ w
        → HoldsForAgreeingContents a d (λ c. map_denoted_by_text c ≡ w)
    ends end v w reported same text =
        lead_then header_of_text (λ c. Ok (header_and_data_start_of_reader p c)) a (bytes_to_come_for_content p.ahead) d
        (λ c. IsValidDataPosition (position_of_grid_reader p c)
        → data_rows_to_text_end p.header (position_of_grid_reader p c)
        ≡ v) (λ c. map_denoted_by_text c ≡ w)
        (λ x y o values. text_step p v w x y text o (values (opening_keeps_places x
        (header_and_data_start_of_reader p y) o)))
        opened
        (lead_then (λ c. rows_read_from_position p.header (position_of_grid_reader p c))
        (λ c. Ok (m.rows, position_of_grid_reader s c))
        (bytes_to_come_for_content p.ahead) (bytes_to_come_for_content s.ahead) d
        (λ c. fault_of_reading_result end ≡ first_fault_after_last_cell (position_of_grid_reader s c))
        (λ c. IsValidDataPosition (position_of_grid_reader p c)
        → data_rows_to_text_end p.header (position_of_grid_reader p c) ≡ v)
        (λ x y rows fault placed. data_ends p.header (position_of_grid_reader p x)
        (position_of_grid_reader s y) m.rows end v is.wide is.high placed rows fault same)
        is.rows reported)

    -- a text with these rows and no further word is the map of the rows
    pub whole_read : HoldsForAgreeingContents (bytes_to_come_for_content s.ahead) d
        (λ c. fault_of_reading_result {X = Unit {0}} (Ok tt) ≡ first_fault_after_last_cell
        (position_of_grid_reader s c)) → HoldsForAgreeingContents a d
        (λ c. map_denoted_by_text c ≡ Ok m)
    whole_read reported = ends (Ok tt) (Ok m.rows) (Ok m) reported refl
        (λ i. Ok (record { region = sym is.region i; rows = m.rows; labels = sym is.labels i }))

    -- an error after the rows is the error of the text
    pub end_fails : (f : GridFault) → HoldsForAgreeingContents (bytes_to_come_for_content s.ahead) d
        (λ c. fault_of_reading_result {X = Unit {0}} (Err f) ≡ first_fault_after_last_cell
        (position_of_grid_reader s c)) → HoldsForAgreeingContents a d
        (λ c. map_denoted_by_text c ≡ Err f)
    end_fails f reported = ends (Err f) (Err f) (Err f) reported refl refl

-- an error of the header is an error of the text
header_faults : (c : ComingBytes) (f : GridFault) → header_of_text c ≡ Err f → map_denoted_by_text c ≡ Err f
unfolding map_denoted_by_text
header_faults c f e = rw e refl

-- an error that the opening reports is the error of the text, under the premise of that error
pub opening_fails : (a d : Contents) (f : GridFault) (M : Type 0) → HoldsForAgreeingContents a d
    (λ c. M → first_fault_up_to_first_data_token c ≡ Some f) → HoldsForAgreeingContents a d (λ c. M
    → map_denoted_by_text c ≡ Err f)
opening_fails a d f M reported =
    implied (λ c. M → first_fault_up_to_first_data_token c ≡ Some f) (λ c. M → map_denoted_by_text c ≡ Err f) a d
    (λ c fault premise. header_faults c f ((opening_agrees c f).1 (fault premise)))
    reported

-- a map that was read is the map that the text denotes
pub reading_denotes : (r : Result Grid GridFault) (a d : Contents) → HoldsForAgreeingContents a d
    (λ c. EqualsReadingUnlessOutOfMemory r (map_denoted_by_text c))
    → IfOk r (λ m. HoldsForAgreeingContents a d (λ c. SourceDenotesMap c m))
reading_denotes (Ok m) a d reading = implied (λ c. map_denoted_by_text c ≡ Ok m) (λ c. SourceDenotesMap c m) a d
    (λ c. (reading_agrees c m).0) reading
reading_denotes (Err f) a d reading = tt

-- an error that was returned is the first error of the text
pub text_read_fails_with_first_fault : (r : Result Grid GridFault) (a d : Contents)
    → HoldsForAgreeingContents a d (λ c. EqualsReadingUnlessOutOfMemory r (map_denoted_by_text c))
    → IfErr r (λ f. f.kind ≢ Memory → HoldsForAgreeingContents a d (λ c. first_fault_of_text c ≡ Some f))
text_read_fails_with_first_fault (Ok m) a d reading = tt
text_read_fails_with_first_fault (Err f) a d reading = λ other.
    implied (λ c. f.kind ≢ Memory → map_denoted_by_text c ≡ Err f) (λ c. first_fault_of_text c ≡ Some f) a d
    (λ c e. (faults_agree c f).0 (e other)) reading

-- if the keys give no header, their error is the error of the header
pub open_fails : (keys : HeaderKeyValues) (word : List ℕ) (line : ℕ) (waiting : Bool) (a b : Contents) (f : GridFault)
    → EqualBeforeAndAfterReads (rest_of_header_from_line 10 empty_header_key_values 1 0) a
    (header_from_call_result (Ok waiting) keys word line) b
    → Err f ≡ result_with_line_in_fault line (header_defined_by_keys keys)
    → HoldsForAgreeingContents a b (λ c. header_of_text c ≡ Err f)
open_fails keys word line waiting a b f e bad =
    known (rest_of_header_from_line 10 empty_header_key_values 1 0)
    (header_from_call_result (Ok waiting) keys word line) a b
    (Err f) e (λ c. rw (← bad) refl)

-- if all six keys are given, the header depends on whether they form a region
all_given : (k : HeaderKeyValues) (north south east west : ℤ) (rows cols : ℕ) → k.north ≡ Some north
    → k.south ≡ Some south → k.east ≡ Some east → k.west ≡ Some west → k.rows ≡ Some rows → k.cols ≡ Some cols
    → header_of_keys_and_region k (region_or_first_fault (record { north = north; south = south; east = east; west = west; rows = rows; cols = cols })) ≡ header_defined_by_keys k
all_given k north south east west rows cols n s e w r c = rw (n, s, e, w, r, c) refl

-- a property of a missing key and of each region error holds of each error of the keys
module _ (P : GridKind → Type 0) (missing : P MissingKey) (region : (f : RegionFault) → P (Region f))
    (k : HeaderKeyValues) where
  judged_has : (r : Result RegionValue RegionFault) (kind : GridKind) → header_of_keys_and_region k r ≡ Err kind
      → P kind
  judged_has (Ok given) kind e = cc
  judged_has (Err f) kind e = let p : Region f ≡ kind = cc in subst P p (region f)

  none_has : (kind : GridKind) → header_defined_by_keys k ≡ Err MissingKey → header_defined_by_keys k ≡ Err kind
      → P kind
  none_has kind e is = let p : MissingKey ≡ kind = cc in subst P p missing

  keys_have : (n s e w : Option ℤ) (r c : Option ℕ) (kind : GridKind) → k.north ≡ n → k.south ≡ s → k.east ≡ e
      → k.west ≡ w → k.rows ≡ r → k.cols ≡ c
      → header_defined_by_keys k ≡ Err kind → P kind
  keys_have None s e w r c kind en es ee ew er ec is = none_has kind (rw en refl) is
  keys_have (Some n) None e w r c kind en es ee ew er ec is = none_has kind (rw (en, es) refl) is
  keys_have (Some n) (Some s) None w r c kind en es ee ew er ec is = none_has kind (rw (en, es, ee) refl) is
  keys_have (Some n) (Some s)
      (Some e) None r c kind en es ee ew er ec is = none_has kind (rw (en, es, ee, ew) refl) is
  keys_have (Some n) (Some s) (Some e)
      (Some w) None c kind en es ee ew er ec is = none_has kind (rw (en, es, ee, ew, er) refl) is
  keys_have (Some n) (Some s) (Some e) (Some w)
      (Some r) None kind en es ee ew er ec is = none_has kind (rw (en, es, ee, ew, er, ec) refl) is
  keys_have (Some n) (Some s) (Some e) (Some w) (Some r) (Some c) kind en es ee ew er ec is =
      judged_has (region_or_first_fault (record { north = n; south = s; east = e; west = w; rows = r; cols = c })) kind (all_given k n s e w r c en es ee ew er ec ∙ is)

  header_has : (line : ℕ) (f : GridFault) → Err f ≡ result_with_line_in_fault line (header_defined_by_keys k) → P f.kind
  header_has line f e = by (header_defined_by_keys k) refl e
    where
      by : (r : Result GridHeaderContents GridKind) → header_defined_by_keys k ≡ r
          → Err f ≡ result_with_line_in_fault line r
          → P f.kind
      by (Ok h) is o = cc
      by (Err kind) is o = let p : kind ≡ f.kind = cc in subst P p (keys_have k.north k.south k.east k.west k.rows k.cols kind refl refl refl refl refl refl is)

-- if the keys give no header, the error is an error of the text, not of its source
pub header_kind : (k : HeaderKeyValues) (line : ℕ) (f : GridFault)
    → Err f ≡ result_with_line_in_fault line (header_defined_by_keys k) → IsFaultOfText f.kind
header_kind = header_has IsFaultOfText tt (λ f. tt)

pub header_reported : (k : HeaderKeyValues) (line : ℕ) (f : GridFault)
    → Err f ≡ result_with_line_in_fault line (header_defined_by_keys k)
    → is_failed_read f.kind ≡ false
header_reported = header_has (λ kind. is_failed_read kind ≡ false) refl (λ f. refl)
