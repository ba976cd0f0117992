-- The reading of cells and of the end, from any place after the header, compared with the places that it passes.
use Rattle.std.proofs.Common.{◌≡◌, ℕ, zero, suc, ◌+◌, ◌<◌, ◌≤◌, List, [], ◌∷◌, ◌++◌, Option, Some, None, ◌==◌, Bool, true, false, cond, not, length, refl, ap, sym, ◌∙◌, arith, length-append, Result, Ok, Err, ◌⊎◌, inl, inr, if◌then◌else◌, subst}
use Rattle.std.specs.Prelude.{nat_lt}
use Rattle.std.specs.Option.{option_map, unwrap_or}
use Rattle.std.specs.List.{list_all}
use Rattle.std.proofs.lemmas.Bool.{cases_Bool, cases_lt, and_parts}
use Rattle.std.proofs.lemmas.Bool.Decides.{nat_tests}
use Rattle.cell_core_devices.specs.Device.{ComingBytes}
use Rattle.cell_core.specs.Grid.{CellValue}
use Rattle.cell_ascii_meaning.specs.GridTokens.{NextWordStart, Begins, Ends, Stops, is_space, is_word_byte, grid_fault_at_line, next_word_start, word_continued_in_bytes}
use Rattle.cell_ascii_meaning.specs.Header.{DataPosition, GridHeaderContents, ◌>>=◌}
use Rattle.cell_ascii_meaning.specs.CellTexts.{ReadValueAndPositionOrFault, position_without_pending_word, cell_and_position_after_word, cell_of_word_at_line, cell_at_word_start, cell_of_word, next_cell_after_position, items_read_one_after_another, text_end_or_fault}
use Rattle.cell_ascii_meaning.specs.FaultPlaces.{ByteOrTextEndOrFailedRead, Byte, End, Fails, ends_token, ◌or◌}
use Rattle.cell_ascii_meaning.specs.RowPlaces.{CellFaultTable, too_few_cells_fault_at_text_end, cell_rows_of_fault_table, place_is_up_to_last_cell, fault_table_of_next_cells, fault_table_after_last_cell, next_byte_does_not_extend_token, first_fault_of_next_cells, first_fault_after_last_cell, IsValidDataPosition}
use Rattle.cell_ascii_meaning.specs.declared.grid_fault.GridKind.{GridKind}
use Rattle.cell_ascii_meaning.specs.declared.grid_fault.GridKind.TheVariants.{LongToken, ReaderStuck, TooFew, TooMany, Read}
use Rattle.cell_ascii_meaning.specs.declared.grid_fault.GridFault.{GridFault}
use Rattle.cell_ascii_meaning.proofs.TokenLemmas.{coming, start-ends, start-fails, start-begins, start-stuck, start-more}
use Rattle.cell_ascii_meaning.proofs.TokenLemmas.{word-ends, word-fails, word-stops, word-long, word-more}
use Rattle.cell_ascii_law.proofs.LimitLawLemmas.{IsFree}
use Rattle.cell_ascii_law_faults.proofs.SeenLemmas.{with_token}
use Rattle.cell_ascii_law_faults.proofs.PlaceWordLemmas.{IsAfterWord}
use Rattle.cell_ascii_law_faults.proofs.PlaceDataLemmas.{fault_in}
use Rattle.cell_ascii_law_faults.proofs.RowSeenLemmas.{RowSeen, row_seen, row_reports, row_step, row_step_by, row_scan, first_is}

module _ (table : CellFaultTable) where
  one_reported : (s : RowSeen) (b : ℕ) (bs : List ℕ) (f : Bool) (e : GridFault) → row_reports table s (Byte b) ≡ Some e → row_scan table s (b ∷ bs) f ≡ Some e
  one_reported s b bs f e t = ap (λ (o : Option GridFault). o or row_scan table (row_step s b) bs f) t

  one_silent : (s n : RowSeen) (b : ℕ) (bs : List ℕ) (f : Bool) → row_reports table s (Byte b) ≡ None → row_step s b ≡ n → row_scan table s (b ∷ bs) f ≡ row_scan table n bs f
  one_silent s n b bs f t e = ap (λ (o : Option GridFault). o or row_scan table (row_step s b) bs f) t ∙ ap (λ (m : RowSeen). row_scan table m bs f) e

step_space : (s : RowSeen) (b : ℕ) → is_space b ≡ true → row_step s b ≡ row_step_by true s b
step_space s b space = λ i. row_step_by (space i) s b

step_word : (s : RowSeen) (b : ℕ) → is_space b ≡ false → row_step s b ≡ row_step_by false s b
step_word s b word = λ i. row_step_by (word i) s b

-- The reports of a table between words, and within one.
record IsBetween (table : CellFaultTable) (ws : List (List ℕ)) : Type 0 where
  blank : (gap b : ℕ) → is_space b ≡ true → gap < 1048576 → table gap [] ws (Byte b) ≡ None
  full : (gap b : ℕ) → is_space b ≡ true → gap ≡ 1048576 → table gap [] ws (Byte b) ≡ Some ReaderStuck
  fails : (gap : ℕ) → table gap [] ws Fails ≡ Some Read

record IsWithin (table : CellFaultTable) (ws : List (List ℕ)) : Type 0 where
  short : (b x : ℕ) (xs : List ℕ) → is_space b ≡ false → length (x ∷ xs) < 64 → table 0 (x ∷ xs) (ws ++ (x ∷ xs) ∷ []) (Byte b) ≡ None
  long : (b x : ℕ) (xs : List ℕ) → is_space b ≡ false → 64 ≡ length (x ∷ xs) → table 0 (x ∷ xs) (ws ++ (x ∷ xs) ∷ []) (Byte b) ≡ Some LongToken
  fails : (x : ℕ) (xs : List ℕ) → table 0 (x ∷ xs) (ws ++ (x ∷ xs) ∷ []) Fails ≡ Some Read

abbrev on_line : ℕ → Option GridKind → Option GridFault
on_line line o = option_map (λ kind. grid_fault_at_line kind line) o

-- Blanks before the next word: if k agrees with the places from the word on, and at the end, k agrees from here on.
module _ (table : CellFaultTable) (ws : List (List ℕ)) (between : IsBetween table ws) (k : NextWordStart → Option GridFault) (stops : (e : GridFault) → k (Stops e) ≡ Some e)
    (begins : (line gap b : ℕ) (bs : List ℕ) (f : Bool) → is_space b ≡ false → k (Begins line (coming (b ∷ bs) f)) ≡ row_scan table (row_seen line gap ws []) (b ∷ bs) f)
    (ends : (line gap : ℕ) → k (Ends line) ≡ row_scan table (row_seen line gap ws []) [] false) where
  before_word : (bs : List ℕ) (f : Bool) (line gap : ℕ) → gap ≤ 1048576 → k (next_word_start line gap (coming bs f)) ≡ row_scan table (row_seen line gap ws []) bs f
  before_word [] false line gap low = ap k (start-ends line gap low) ∙ ends line gap
  before_word [] true line gap low = ap k (start-fails line gap low) ∙ stops (grid_fault_at_line Read line) ∙ sym (ap (on_line line) (between.fails gap))
  before_word (b ∷ bs) f line gap low = by (before_word bs f (line + cond (b == 10) 1 0) (gap + 1)) (cases_Bool (is_space b)) (cases_lt gap 1048576)
    where
      s : RowSeen
      s = row_seen line gap ws []

      full_is : 1048576 ≤ gap → gap ≡ 1048576
      full_is full = omega arith

      by : (gap + 1 ≤ 1048576 → k (next_word_start (line + cond (b == 10) 1 0) (gap + 1) (coming bs f)) ≡ row_scan table (row_seen (line + cond (b == 10) 1 0) (gap + 1) ws []) bs f)
          → (is_space b ≡ true) ⊎ (is_space b ≡ false) → (gap < 1048576) ⊎ (1048576 ≤ gap) → k (next_word_start line gap (coming (b ∷ bs) f)) ≡ row_scan table s (b ∷ bs) f
      by on (inr word) _ = ap k (start-begins line gap low b bs f word) ∙ begins line gap b bs f word
      by on (inl space) (inr full) = ap k (start-stuck line gap low b bs f space full) ∙ stops (grid_fault_at_line ReaderStuck line)
          ∙ sym (one_reported table s b bs f (grid_fault_at_line ReaderStuck line) (ap (on_line line) (between.full gap b space (full_is full))))
      by on (inl space) (inl room) = ap k (start-more line gap low b bs f space room) ∙ on (omega arith)
          ∙ sym (one_silent table s (row_seen (line + cond (b == 10) 1 0) (gap + 1) ws []) b bs f (ap (on_line line) (between.blank gap b space room)) (step_space s b space))

-- The rest of a word: if k agrees with the places from the word's end on, k agrees from here on.
module _ (table : CellFaultTable) (ws : List (List ℕ)) (within : IsWithin table ws) (line : ℕ) (k : Result (List ℕ × ComingBytes) GridFault → Option GridFault) (fails : (e : GridFault) → k (Err e) ≡ Some e)
    (done : (x : ℕ) (xs bs : List ℕ) (f : Bool) → IsAfterWord bs f → k (Ok (x ∷ xs, coming bs f)) ≡ row_scan table (row_seen line 0 ws (x ∷ xs)) bs f) where
  in_word : (bs : List ℕ) (f : Bool) (x : ℕ) (xs : List ℕ) → length (x ∷ xs) ≤ 64 → k (word_continued_in_bytes line (x ∷ xs) (coming bs f)) ≡ row_scan table (row_seen line 0 ws (x ∷ xs)) bs f
  in_word [] false x xs short = ap k (word-ends line (x ∷ xs) short) ∙ done x xs [] false refl
  in_word [] true x xs short = ap k (word-fails line (x ∷ xs) short) ∙ fails (grid_fault_at_line Read line) ∙ sym (ap (on_line line) (within.fails x xs))
  in_word (b ∷ bs) f x xs short = by (in_word bs f x (xs ++ b ∷ [])) (cases_Bool (is_space b)) (cases_lt (length (x ∷ xs)) 64)
    where
      s : RowSeen
      s = row_seen line 0 ws (x ∷ xs)

      longest : 64 ≤ length (x ∷ xs) → 64 ≡ length (x ∷ xs)
      longest full = omega arith

      by : (length (x ∷ (xs ++ b ∷ [])) ≤ 64 → k (word_continued_in_bytes line (x ∷ (xs ++ b ∷ [])) (coming bs f)) ≡ row_scan table (row_seen line 0 ws (x ∷ (xs ++ b ∷ []))) bs f)
          → (is_space b ≡ true) ⊎ (is_space b ≡ false) → (length (x ∷ xs) < 64) ⊎ (64 ≤ length (x ∷ xs)) → k (word_continued_in_bytes line (x ∷ xs) (coming (b ∷ bs) f)) ≡ row_scan table s (b ∷ bs) f
      by on (inl space) _ = ap k (word-stops line (x ∷ xs) short b bs f space) ∙ done x xs (b ∷ bs) f space
      by on (inr word) (inr full) = ap k (word-long line (x ∷ xs) short b bs f word full) ∙ fails (grid_fault_at_line LongToken line)
          ∙ sym (one_reported table s b bs f (grid_fault_at_line LongToken line) (ap (on_line line) (within.long b x xs word (longest full))))
      by on (inr word) (inl room) = ap k (word-more line (x ∷ xs) short b bs f word) ∙ on (omega (arith, length-append xs (b ∷ [])))
          ∙ sym (one_silent table s (row_seen line 0 ws (x ∷ (xs ++ b ∷ []))) b bs f (ap (on_line line) (within.short b x xs word room)) (step_word s b word))

  next_word : (gap b : ℕ) (bs : List ℕ) (f : Bool) → is_space b ≡ false → table gap [] ws (Byte b) ≡ None → k (word_continued_in_bytes line [] (coming (b ∷ bs) f)) ≡ row_scan table (row_seen line gap ws []) (b ∷ bs) f
  next_word gap b bs f word silent = ap k (word-more line [] (omega arith) b bs f word) ∙ in_word bs f b [] (omega arith)
      ∙ sym (one_silent table (row_seen line gap ws []) (row_seen line 0 ws (b ∷ [])) b bs f (ap (on_line line) silent) (step_word (row_seen line gap ws []) b word))

-- A word whose end reports no error is added to the complete words.
module _ (table : CellFaultTable) (ws : List (List ℕ)) (line x : ℕ) (xs : List ℕ) where
  settled : ((place : ByteOrTextEndOrFailedRead) → ends_token place ≡ true → table 0 (x ∷ xs) (ws ++ (x ∷ xs) ∷ []) place ≡ table 0 [] (ws ++ (x ∷ xs) ∷ []) place) → (bs : List ℕ) (f : Bool) → IsAfterWord bs f
      → row_scan table (row_seen line 0 ws (x ∷ xs)) bs f ≡ row_scan table (row_seen line 0 (ws ++ (x ∷ xs) ∷ []) []) bs f
  settled same [] true after = cc
  settled same [] false after = ap (on_line line) (same End refl)
  settled same (b ∷ bs) f space = λ i. on_line line (same (Byte b) space i) or row_scan table (step i) bs f
    where
      step : row_step (row_seen line 0 ws (x ∷ xs)) b ≡ row_step (row_seen line 0 (ws ++ (x ∷ xs) ∷ []) []) b
      step = step_space (row_seen line 0 ws (x ∷ xs)) b space ∙ sym (step_space (row_seen line 0 (ws ++ (x ∷ xs) ∷ []) []) b space)

-- The table of cells.
module _ (h : GridHeaderContents) (count : ℕ) where
  abbrev table : CellFaultTable
  table = fault_table_of_next_cells h count

  judged : (gap : ℕ) (token : List ℕ) (words : List (List ℕ)) (place : ByteOrTextEndOrFailedRead) → place_is_up_to_last_cell count words token ≡ true → table gap token words place ≡ cell_rows_of_fault_table h count gap token words place
  judged gap token words place e = ap (λ (t : Bool). if t then cell_rows_of_fault_table h count gap token words
      place else None) e

  behind : (gap : ℕ) (token : List ℕ) (words : List (List ℕ)) (place : ByteOrTextEndOrFailedRead) → place_is_up_to_last_cell count words token ≡ false → table gap token words place ≡ None
  behind gap token words place e = ap (λ (t : Bool). if t then cell_rows_of_fault_table h count gap token words
      place else None) e

  module _ (ws : List (List ℕ)) (fewer : length ws < count) where
    inside : place_is_up_to_last_cell count ws [] ≡ true
    inside = let t : nat_lt (length ws) count ≡ true = grind (arith, nat_tests) in rw t

    inside_word : (x : ℕ) (xs : List ℕ) → place_is_up_to_last_cell count (ws ++ (x ∷ xs) ∷ []) (x ∷ xs) ≡ true
    inside_word x xs = by (cases_lt (length (ws ++ (x ∷ xs) ∷ [])) count)
      where
        longer : length (ws ++ (x ∷ xs) ∷ []) ≡ length ws + 1
        longer = length-append ws ((x ∷ xs) ∷ [])

        by : (length (ws ++ (x ∷ xs) ∷ []) < count) ⊎ (count ≤ length (ws ++ (x ∷ xs) ∷ [])) → place_is_up_to_last_cell count (ws ++ (x ∷ xs) ∷ []) (x ∷ xs) ≡ true
        by (inl less) = let t : nat_lt (length (ws ++ (x ∷ xs) ∷ [])) count ≡ true = grind (arith, nat_tests) in rw t
        by (inr all) =
            let t : nat_lt (length (ws ++ (x ∷ xs) ∷ [])) count ≡ false = grind (arith, nat_tests) in
            let u : (length (ws ++ (x ∷ xs) ∷ []) == count) ≡ true = grind (arith, nat_tests, longer) in
            rw (t, u)

    between : IsBetween table ws
    between = record {
      blank = λ gap b space room. judged gap [] ws (Byte b) inside ∙ (let t : (gap == 1048576) ≡ false = grind (arith, nat_tests) in rw (space, t));
      full = λ gap b space full. judged gap [] ws (Byte b) inside ∙ rw (space, full);
      fails = λ gap. judged gap [] ws Fails inside;
    }

    within : IsWithin table ws
    within = record {
      short = λ b x xs word short. judged 0 (x ∷ xs) (ws ++ (x ∷ xs) ∷ []) (Byte b) (inside_word x xs) ∙ (let t : (length (x ∷ xs) == 64) ≡ false = grind (arith, nat_tests) in rw (word, t));
      long = λ b x xs word long. judged 0 (x ∷ xs) (ws ++ (x ∷ xs) ∷ []) (Byte b) (inside_word x xs) ∙ rw (word, sym long);
      fails = λ x xs. judged 0 (x ∷ xs) (ws ++ (x ∷ xs) ∷ []) Fails (inside_word x xs);
    }

    first : (gap b : ℕ) → is_space b ≡ false → table gap [] ws (Byte b) ≡ None
    first gap b word = judged gap [] ws (Byte b) inside ∙ rw word

    early : (gap : ℕ) → table gap [] ws End ≡ Some TooFew
    early gap = judged gap [] ws End inside ∙ (let t : nat_lt (length ws) count ≡ true = grind (arith, nat_tests) in rw t)

  -- after the last cell, no place belongs to the cells
  over : (ws : List (List ℕ)) (t : List ℕ) → count ≤ length ws
      → place_is_up_to_last_cell count (with_token ws t) t ≡ false
  over ws [] all = let u : nat_lt (length ws) count ≡ false = grind (arith, nat_tests) in rw u
  over ws (x ∷ xs) all =
      let longer = length-append ws ((x ∷ xs) ∷ []) in
      let u : nat_lt (length (ws ++ (x ∷ xs) ∷ [])) count ≡ false = grind (arith, nat_tests) in
      let v : (length (ws ++ (x ∷ xs) ∷ []) == count) ≡ false = grind (arith, nat_tests) in
      rw (u, v)

  nothing : (bs : List ℕ) (f : Bool) (line gap : ℕ) (ws : List (List ℕ)) (t : List ℕ) → count ≤ length ws → row_scan table (row_seen line gap ws t) bs f ≡ None
  nothing [] false line gap ws t all = ap (on_line line) (behind gap t (with_token ws t) End (over ws t all))
  nothing [] true line gap ws t all = ap (on_line line) (behind gap t (with_token ws t) Fails (over ws t all))
  nothing (b ∷ bs) f line gap ws t all = by (nothing bs f) (cases_Bool (is_space b))
    where
      s : RowSeen
      s = row_seen line gap ws t

      more : (t : List ℕ) → count ≤ length (with_token ws t)
      more [] = all
      more (x ∷ xs) = omega (arith, length-append ws ((x ∷ xs) ∷ []))

      by : ((line gap : ℕ) (ws : List (List ℕ)) (t : List ℕ) → count ≤ length ws → row_scan table (row_seen line gap ws t) bs f ≡ None) → (is_space b ≡ true) ⊎ (is_space b ≡ false) → row_scan table s (b ∷ bs) f ≡ None
      by on (inl space) = one_silent table s (row_seen (line + cond (b == 10) 1 0) (gap + 1) (with_token ws t) []) b bs f (ap (on_line line) (behind gap t (with_token ws t) (Byte b) (over ws t all))) (step_space s b space) ∙ on (line + cond (b == 10) 1 0) (gap + 1) (with_token ws t) [] (more t)
      by on (inr word) = one_silent table s (row_seen line 0 ws (t ++ b ∷ [])) b bs f (ap (on_line line) (behind gap t (with_token ws t) (Byte b) (over ws t all))) (step_word s b word) ∙ on line 0 ws (t ++ b ∷ []) all

  -- the report at the end of a word is the error of its cell
  module _ (ws : List (List ℕ)) (fewer : length ws < count) (x : ℕ) (xs : List ℕ) where
    abbrev now : List (List ℕ)
    now = ws ++ (x ∷ xs) ∷ []

    no_cell : (kind : GridKind) → cell_of_word h (x ∷ xs) ≡ Err kind → (place : ByteOrTextEndOrFailedRead) → ends_token place ≡ true → table 0 (x ∷ xs) now place ≡ Some kind
    no_cell kind e place ends = judged 0 (x ∷ xs) now place (inside_word ws fewer x xs) ∙ by ws place ends
      where
        by : (vs : List (List ℕ)) (place : ByteOrTextEndOrFailedRead) → ends_token place ≡ true → cell_rows_of_fault_table h count 0 (x ∷ xs) (vs ++ (x ∷ xs) ∷ []) place ≡ Some kind
        by [] (Byte b) space = rw (space, e)
        by (v ∷ vs) (Byte b) space = rw (space, e)
        by [] End ends = rw e
        by (v ∷ vs) End ends = rw e
        by vs Fails ends = cc

    a_cell : (v : CellValue) → cell_of_word h (x ∷ xs) ≡ Ok v → (place : ByteOrTextEndOrFailedRead) → ends_token place ≡ true → table 0 (x ∷ xs) now place ≡ table 0 [] now place
    a_cell v e place ends = judged 0 (x ∷ xs) now place (inside_word ws fewer x xs) ∙ by ws place ends ∙ last (cases_lt (length now) count)
      where
        by : (vs : List (List ℕ)) (place : ByteOrTextEndOrFailedRead) → ends_token place ≡ true → cell_rows_of_fault_table h count 0 (x ∷ xs) (vs ++ (x ∷ xs) ∷ []) place ≡ (too_few_cells_fault_at_text_end count (vs ++ (x ∷ xs) ∷ []) place or None)
        by [] (Byte b) space = rw (space, e)
        by (u ∷ vs) (Byte b) space = rw (space, e)
        by [] End ends = rw e
        by (u ∷ vs) End ends = rw e
        by vs Fails ends = cc

        more : (place : ByteOrTextEndOrFailedRead) → ends_token place ≡ true → (too_few_cells_fault_at_text_end count now place or None) ≡ cell_rows_of_fault_table h count 0 [] now place
        more (Byte b) space = rw space
        more End ends = refl
        more Fails ends = cc

        none : (place : ByteOrTextEndOrFailedRead) → ends_token place ≡ true → nat_lt (length now) count ≡ false → (too_few_cells_fault_at_text_end count now place or None) ≡ None
        none (Byte b) space all = refl
        none End ends all = rw all
        none Fails ends all = refl

        last : (length now < count) ⊎ (count ≤ length now) → (too_few_cells_fault_at_text_end count now place or None)
            ≡ table 0 [] now place
        last (inl less) = more place ends ∙ sym (judged 0 [] now place (inside now less))
        last (inr all) = none place ends (let u : nat_lt (length now) count ≡ false = grind (arith, nat_tests) in u) ∙ sym (behind 0 [] now place (over now [] all))

  -- the error that is reported from a cell on
  abbrev then_more : ℕ → ReadValueAndPositionOrFault CellValue → Option GridFault
  then_more m r = fault_in {X = List CellValue × DataPosition} (r >>= (λ y. items_read_one_after_another (next_cell_after_position h) m y.1 >>= (λ z. Ok (y.0 ∷ z.0, z.1))))

  more_fault : (v : CellValue) (r : ReadValueAndPositionOrFault (List CellValue)) → fault_in {X = List CellValue × DataPosition} (r >>= (λ z. Ok (v ∷ z.0, z.1))) ≡ fault_in r
  more_fault v (Ok z) = refl
  more_fault v (Err e) = refl

  -- after the cells read so far, reading m more cells gives the error that the places report
  abbrev Reports : ℕ → List (List ℕ) → Type 0
  Reports m ws = (bs : List ℕ) (f : Bool) (line gap : ℕ) → gap ≤ 1048576 → fault_in (items_read_one_after_another (next_cell_after_position h) m (position_without_pending_word line gap (coming bs f))) ≡ row_scan table (row_seen line gap ws []) bs f

  word_done : (m : ℕ) (ws : List (List ℕ)) → length ws < count → (line x : ℕ) (xs : List ℕ) → Reports m (ws ++ (x ∷ xs) ∷ []) → (bs : List ℕ) (f : Bool) → IsAfterWord bs f
      → then_more m (cell_and_position_after_word line (coming bs f) (cell_of_word h (x ∷ xs))) ≡ row_scan table (row_seen line 0 ws (x ∷ xs)) bs f
  word_done m ws fewer line x xs on bs f after = by (cell_of_word h (x ∷ xs)) refl
    where
      reported : (kind : GridKind) → cell_of_word h (x ∷ xs) ≡ Err kind → (cs : List ℕ) (g : Bool) → IsAfterWord cs g → row_scan table (row_seen line 0 ws (x ∷ xs)) cs g ≡ Some (grid_fault_at_line kind line)
      reported kind e [] true after = cc
      reported kind e [] false after = ap (on_line line) (no_cell ws fewer x xs kind e End refl)
      reported kind e (b ∷ cs) g space = one_reported table (row_seen line 0 ws (x ∷ xs)) b cs g (grid_fault_at_line kind line) (ap (on_line line) (no_cell ws fewer x xs kind e (Byte b) space))

      by : (r : Result CellValue GridKind) → cell_of_word h (x ∷ xs) ≡ r → then_more m (cell_and_position_after_word line (coming bs f) r) ≡ row_scan table (row_seen line 0 ws (x ∷ xs)) bs f
      by (Ok v) e = more_fault v (items_read_one_after_another (next_cell_after_position h) m (position_without_pending_word line 0 (coming bs f))) ∙ on bs f line 0 (omega arith) ∙ sym (settled table ws line x xs (a_cell ws fewer x xs v e) bs f after)
      by (Err kind) e = sym (reported kind e bs f after)

  cells_are : (m : ℕ) (ws : List (List ℕ)) → length ws + m ≡ count → Reports m ws
  unfolding next_cell_after_position
  cells_are zero ws all bs f line gap low = sym (nothing bs f line gap ws [] (omega arith))
  cells_are (suc m) ws all bs f line gap low = by (λ w. cells_are m (ws ++ w ∷ []) (omega (arith, length-append ws (w ∷ []))))
    where
      fewer : length ws < count
      fewer = omega arith

      by : ((w : List ℕ) → Reports m (ws ++ w ∷ [])) → then_more m (cell_at_word_start h (next_word_start line gap (coming bs f))) ≡ row_scan table (row_seen line gap ws []) bs f
      by on = before_word table ws (between ws fewer) (λ s. then_more m (cell_at_word_start h s)) (λ e. refl) begins (λ l g. sym (ap (on_line l) (early ws fewer g))) bs f line gap low
        where
          begins : (l g b : ℕ) (cs : List ℕ) (e : Bool) → is_space b ≡ false → then_more m (cell_at_word_start h (Begins l (coming (b ∷ cs) e))) ≡ row_scan table (row_seen l g ws []) (b ∷ cs) e
          begins l g b cs e word = next_word table ws (within ws fewer) l (λ r. then_more m (cell_of_word_at_line h l r)) (λ e. refl) (λ x xs ds t after. word_done m ws fewer l x xs (on (x ∷ xs)) ds t after) g b cs e word (first ws fewer g b word)

  -- with a pending token, the cells give the error that the places report
  cells_with : (m : ℕ) → m ≡ count → (line x : ℕ) (xs bs : List ℕ) (f : Bool) → IsAfterWord bs f → fault_in (items_read_one_after_another (next_cell_after_position h) m (record { pending = Some (x ∷ xs); line = line; run = 0; coming = coming bs f })) ≡ row_scan table (row_seen line 0 [] (x ∷ xs)) bs f
  unfolding next_cell_after_position
  cells_with zero all line x xs bs f after = sym (nothing bs f line 0 [] (x ∷ xs) (omega arith))
  cells_with (suc m) all line x xs bs f after = word_done m [] (omega arith) line x xs (cells_are m ((x ∷ xs) ∷ []) (omega arith)) bs f after

free_word : (w : List ℕ) → list_all is_word_byte w ≡ true → IsFree is_space w
free_word [] e = tt
free_word (b ∷ w) e = let p = and_parts (is_word_byte b) (list_all is_word_byte w) e in (by (is_space b) p.0, free_word w p.1)
  where
    by : (t : Bool) → not t ≡ true → t ≡ false
    by true e = cc
    by false e = refl

after_word_is : (bs : List ℕ) (f : Bool) → next_byte_does_not_extend_token (coming bs f) ≡ true → IsAfterWord bs f
after_word_is [] true e = cc
after_word_is [] false e = refl
after_word_is (b ∷ bs) f e = e

-- the next cells give the error that is reported from their place on
pub cells_reported : (h : GridHeaderContents) (count : ℕ) (at : DataPosition) → IsValidDataPosition at → fault_in (items_read_one_after_another (next_cell_after_position h) count at) ≡ first_fault_of_next_cells h count at
cells_reported h count at is = by at.pending is
  where
    by : (o : Option (List ℕ)) → IsValidDataPosition ((record at { pending = o })) → fault_in (items_read_one_after_another (next_cell_after_position h) count ((record at { pending = o }))) ≡ first_fault_of_next_cells h count ((record at { pending = o }))
    by None is = cells_are h count count [] (omega arith) at.coming.bytes at.coming.fails at.line at.run is.low ∙ sym (first_is (fault_table_of_next_cells h count) (record at { pending = None }) tt)
    by (Some []) is = let t = is.token in cc
    by (Some (x ∷ xs)) is =
        (λ i. fault_in (items_read_one_after_another (next_cell_after_position h) count (record { pending = Some (x ∷ xs); line = at.line; run = is.fresh i; coming = at.coming })))
        ∙ cells_with h count count refl at.line x xs at.coming.bytes at.coming.fails (after_word_is at.coming.bytes at.coming.fails is.apart)
        ∙ (λ i. row_scan (fault_table_of_next_cells h count) (row_seen at.line (sym is.fresh i) [] (x ∷ xs)) at.coming.bytes at.coming.fails)
        ∙ sym (first_is (fault_table_of_next_cells h count) (record at { pending = Some (x ∷ xs) }) (free_word (x
        ∷ xs) is.whole))

-- between words, the table of the end reports a run of blanks that is too long, and a failed read
end_between : IsBetween fault_table_after_last_cell []
end_between = record {
  blank = λ gap b space room. (let t : (gap == 1048576) ≡ false = grind (arith, nat_tests) in rw (space, t));
  full = λ gap b space full. rw (space, full);
  fails = λ gap. refl;
}

pub end_reported : (at : DataPosition) → at.pending ≡ None → at.run ≤ 1048576 → fault_in (text_end_or_fault (next_word_start at.line at.run at.coming)) ≡ first_fault_after_last_cell at
end_reported at none low = before_word fault_table_after_last_cell [] end_between (λ s. fault_in (text_end_or_fault s)) (λ e. refl) begins (λ line gap. refl) at.coming.bytes at.coming.fails at.line at.run low
    ∙ (λ i. row_scan fault_table_after_last_cell (row_seen at.line at.run []
    (unwrap_or (sym none i) [])) at.coming.bytes at.coming.fails)
    ∙ sym (first_is fault_table_after_last_cell at (subst (λ (o : Option (List ℕ)). IsFree is_space (unwrap_or o []))
    (sym none) tt))
  where
    begins : (line gap b : ℕ) (bs : List ℕ) (f : Bool) → is_space b ≡ false → fault_in (text_end_or_fault (Begins line (coming (b ∷ bs) f))) ≡ row_scan fault_table_after_last_cell (row_seen line gap [] []) (b ∷ bs) f
    begins line gap b bs f word = sym (one_reported fault_table_after_last_cell (row_seen line gap [] []) b bs f (grid_fault_at_line TooMany line) (let t : fault_table_after_last_cell gap [] [] (Byte b) ≡ Some TooMany = rw word in ap (on_line line) t))
