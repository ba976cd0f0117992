-- Rows that were read or cut off by an error, as readings of the text.
use Rattle.std.proofs.Common.{◌≡◌, ℕ, zero, suc, ◌+◌, ◌*◌, ◌^◌, ◌<◌, ◌≤◌, List, [], ◌∷◌, ◌++◌, Some, None, Result, Ok, Err, length, take, drop, refl, ap, sym, ◌∙◌, arith, subst, mul-le-mul}
use Rattle.std.proofs.Math.Nat.{add-mul}
use Rattle.std.specs.Option.{IfSome}
use Rattle.cell_core_devices.specs.Device.{ComingBytes}
use Rattle.cell_core_devices.specs.Supposed.{HoldsForAgreeingContents, EqualBeforeAndAfterReads}
use Rattle.cell_core.specs.Grid.{CellValue}
use Rattle.cell_ascii_meaning.specs.GridTokens.{next_word_start}
use Rattle.cell_ascii_meaning.specs.Header.{◌>>=◌, DataPosition, GridHeaderContents, header_of_text}
use Rattle.cell_ascii_meaning.specs.CellTexts.{ReadValueAndPositionOrFault, next_cell_after_position}
use Rattle.cell_ascii_meaning.specs.CellTexts.{items_read_one_after_another, text_end_or_fault}
use Rattle.cell_ascii_meaning.specs.RowPlaces.{IsValidDataPosition, first_fault_of_next_cells}
use Rattle.cell_ascii_meaning.specs.RowPlaces.{first_fault_after_last_cell}
use Rattle.cell_ascii.specs.Reader.{value_for_any_coming_bytes}
use Rattle.cell_ascii.specs.GridReaders.{fault_of_reading_result, IsRowInterruptedByFault}
use Rattle.cell_ascii_meaning.specs.declared.grid_fault.GridFault.{GridFault}
use Rattle.cell_ascii_law_faults.proofs.PlaceDataLemmas.{fault_in}
use Rattle.cell_ascii_law_faults.proofs.RowPlaceLemmas.{cells_reported, end_reported}
use Rattle.cell_ascii_law_faults.proofs.PlaceKeptLemmas.{cells_kept}
use Rattle.cell_ascii_law_faults.proofs.GridFaultLemmas.{opening_keeps_places}
use Rattle.cell_ascii_reading.proofs.LeadLemmas.{Contents, implied, assumed, lead_once, lead_twice, lead_then, lead_end, lead_kept}
use Rattle.cell_ascii.proofs.ManyLemmas.{many_cut, many_snoc, with_last, many_add, and_then, glue}

-- an error after i cells cuts a row off there
pub row_cut : (h : GridHeaderContents) (here mid : ComingBytes
    → DataPosition) (a b d : Contents) (i : ℕ) (f : GridFault)
    (old row : List CellValue) → i < length old → drop i row ≡ drop i old
    → EqualBeforeAndAfterReads (λ c. items_read_one_after_another (next_cell_after_position h) i (here c)) a
    (λ c. Ok (take i row, mid c)) b → EqualBeforeAndAfterReads
    (λ c. next_cell_after_position h (mid c)) b (λ c. Err f) d
    → HoldsForAgreeingContents a d (λ c. IsRowInterruptedByFault h (here c) f old row)
row_cut h here mid a b d i f old row lower kept e o =
    lead_twice (λ c. items_read_one_after_another (next_cell_after_position h) i (here c))
    (λ c. Ok (take i row, mid c)) a b
    (λ c. next_cell_after_position h (mid c))
    (λ c. Err f) d (λ c. IsRowInterruptedByFault h (here c) f old row)
    (λ x y z cells stop. record { count = i; fewer = lower; rest = mid y; cells = cells; stop = stop; kept = kept })
    e o

-- an error after some cells of a row is the error of the row
pub row_fails : (h : GridHeaderContents) (here mid : ComingBytes
    → DataPosition) (a b d : Contents) (i n : ℕ) (f : GridFault)
    (front : List CellValue) → i < n
    → EqualBeforeAndAfterReads (λ c. items_read_one_after_another (next_cell_after_position h) i (here c)) a
    (λ c. Ok (front, mid c)) b → EqualBeforeAndAfterReads
    (λ c. next_cell_after_position h (mid c)) b (λ c. Err f) d
    → HoldsForAgreeingContents a d (λ c. items_read_one_after_another (next_cell_after_position h) n (here c) ≡ Err f)
row_fails h here mid a b d i n f front lower e o =
    lead_twice (λ c. items_read_one_after_another (next_cell_after_position h) i (here c)) (λ c. Ok (front, mid c)) a b
    (λ c. next_cell_after_position h (mid c))
    (λ c. Err f) d (λ c. items_read_one_after_another (next_cell_after_position h) n (here c) ≡ Err f)
    (λ x y z cells stop. many_cut (next_cell_after_position h) i n (here x) (mid y) front f lower cells stop)
    e o

-- an error among the remaining cells of a row is the error of the row
pub others_fail : (h : GridHeaderContents) (here mid : ComingBytes
    → DataPosition) (a b d : Contents) (i n : ℕ) (f : GridFault)
    (front : List CellValue)
    → EqualBeforeAndAfterReads (λ c. items_read_one_after_another (next_cell_after_position h) i (here c)) a
    (λ c. Ok (front, mid c)) b → HoldsForAgreeingContents b d
    (λ c. items_read_one_after_another (next_cell_after_position h) n (mid c) ≡ Err f)
    → HoldsForAgreeingContents a d (λ c. items_read_one_after_another (next_cell_after_position h) (i + n) (here c)
    ≡ Err f)
others_fail h here mid a b d i n f front e stops =
    lead_then (λ c. items_read_one_after_another (next_cell_after_position h) i (here c)) (λ c. Ok (front, mid c)) a b d
    (λ c. items_read_one_after_another (next_cell_after_position h) n (mid c)
    ≡ Err f) (λ c. items_read_one_after_another (next_cell_after_position h) (i + n) (here c)
    ≡ Err f)
    (λ x y cells stop. many_add (next_cell_after_position h) i n (here x) ∙ ap
    (λ (r : ReadValueAndPositionOrFault (List CellValue)). r >>= and_then (next_cell_after_position h) n) cells
    ∙ ap (λ (r : ReadValueAndPositionOrFault (List CellValue)). r >>= glue (next_cell_after_position h) front) stop)
    e stops

-- the error that cuts off a row is the error of its reading
pub cut_fails : (h : GridHeaderContents) (at : DataPosition) (f : GridFault) (old row : List CellValue)
    → IsRowInterruptedByFault h at f old row
    → items_read_one_after_another (next_cell_after_position h) (length old) at ≡ Err f
cut_fails h at f old row cut = many_cut (next_cell_after_position h) cut.count (length old) at cut.rest (take cut.count row) f cut.fewer cut.cells cut.stop

module _ (h : GridHeaderContents) (here : ComingBytes → DataPosition) (Q : ComingBytes → Type 0) (a : Contents)
    (placed : (t : ComingBytes) → IfSome (a t) (λ c. IsValidDataPosition (here c) × Q c)) where
  -- a row that was read reports no error
  pub row_reported : (n : ℕ) (there : ComingBytes → DataPosition) (b : Contents) (row : List CellValue)
      → EqualBeforeAndAfterReads
      (λ c. items_read_one_after_another (next_cell_after_position h) n (here c)) a (λ d. Ok (row, there d)) b
      → HoldsForAgreeingContents a b (λ c. None ≡ first_fault_of_next_cells h n (here c))
  row_reported n there b row e =
      assumed (λ c. None ≡ first_fault_of_next_cells h n (here c)) (λ c. IsValidDataPosition (here c) × Q c) a b placed
      (lead_once (λ c. items_read_one_after_another (next_cell_after_position h) n (here c))
      (λ d. Ok (row, there d)) a b
      (λ c. IsValidDataPosition (here c) × Q c → None ≡ first_fault_of_next_cells h n (here c))
      (λ x y o is. sym (ap fault_in o) ∙ cells_reported h n (here x) is.0)
      e)

  -- a row that was cut off reports its error
  pub cut_reported : (b : Contents) (f : GridFault) (old row : List CellValue) → HoldsForAgreeingContents a b
      (λ c. IsRowInterruptedByFault h (here c) f old row) → HoldsForAgreeingContents a b (λ c. Some f
      ≡ first_fault_of_next_cells h (length old) (here c))
  cut_reported b f old row cut =
      assumed (λ c. Some f ≡ first_fault_of_next_cells h (length old) (here c)) (λ c. IsValidDataPosition (here c)
      × Q c) a b placed
      (implied (λ c. IsRowInterruptedByFault h (here c) f old row)
      (λ c. IsValidDataPosition (here c) × Q c → Some f ≡ first_fault_of_next_cells h (length old) (here c)) a b
      (λ c cut is. sym (ap fault_in (cut_fails h (here c) f old row cut)) ∙ cells_reported h (length old)
      (here c) is.0)
      cut)

  -- after a row, the reader is at a valid position, and no token is pending after the last row
  pub row_placed : (n left : ℕ) (there : ComingBytes → DataPosition) (b : Contents) (row : List CellValue) → 0 < n
      → EqualBeforeAndAfterReads
      (λ c. items_read_one_after_another (next_cell_after_position h) n (here c)) a (λ d. Ok (row, there d)) b
      → (t : ComingBytes) → IfSome (b t) (λ d. IsValidDataPosition (there d) × (left ≡ 0 → (there d).pending ≡ None))
  row_placed n left there b row some e =
      lead_kept (λ c. items_read_one_after_another (next_cell_after_position h) n (here c)) (λ d. Ok (row, there d)) a b
      (λ c. IsValidDataPosition (here c) × Q c) (λ d. IsValidDataPosition (there d)
      × (left ≡ 0 → (there d).pending ≡ None))
      (λ x y o is. let kept = cells_kept h n (here x) (row, there y) is.0 o in (kept.0, λ _. kept.1 some))
      placed e

-- after the header, the reader is at a valid position
pub opening_placed : (h : GridHeaderContents) (there : ComingBytes → DataPosition) (left : ℕ) (a b : Contents)
    → 0 < left
    → EqualBeforeAndAfterReads header_of_text a (λ c. Ok (record { header = h; at = there c })) b → (t : ComingBytes)
    → IfSome (b t)
    (λ c. IsValidDataPosition (there c) × (left ≡ 0 → (there c).pending ≡ None))
opening_placed h there left a b some e =
    lead_end header_of_text (λ c. Ok (record { header = h; at = there c })) a b
    (λ c. IsValidDataPosition (there c) × (left ≡ 0 → (there c).pending ≡ None))
    (λ x y o. (opening_keeps_places x (record { header = h; at = there y }) o, λ none. absurd (omega arith)))
    e

same_fault : {X : Type 0} (r : Result X GridFault) → fault_of_reading_result r ≡ fault_in r
same_fault (Ok x) = refl
same_fault (Err f) = refl

-- the result of the end is the result that the end reports
pub end_answers : (here : ComingBytes → DataPosition) (left : ℕ) (a b : Contents) (r : Result (Unit {0}) GridFault)
    → left ≡ 0
    → ((t : ComingBytes) → IfSome (a t) (λ c. IsValidDataPosition (here c) × (left ≡ 0 → (here c).pending ≡ None)))
    → EqualBeforeAndAfterReads (λ c. text_end_or_fault (next_word_start (here c).line (here c).run (here c).coming)) a
    (value_for_any_coming_bytes r) b → HoldsForAgreeingContents a b
    (λ c. fault_of_reading_result r ≡ first_fault_after_last_cell (here c))
end_answers here left a b r none placed e =
    assumed (λ c. fault_of_reading_result r ≡ first_fault_after_last_cell (here c))
    (λ c. IsValidDataPosition (here c) × (left ≡ 0 → (here c).pending ≡ None)) a b placed
    (lead_once (λ c. text_end_or_fault (next_word_start (here c).line (here c).run (here c).coming))
    (value_for_any_coming_bytes r) a b
    (λ c. IsValidDataPosition (here c) × (left ≡ 0 → (here c).pending ≡ None)
    → fault_of_reading_result r ≡ first_fault_after_last_cell (here c))
    (λ x y o is. same_fault r ∙ sym (ap fault_in o) ∙ end_reported (here x) (is.1 none) is.0.low)
    e)

-- what the end reports is its result
pub end_is : (at : DataPosition) (r : Result (Unit {0}) GridFault) → IsValidDataPosition at → at.pending ≡ None
    → fault_of_reading_result r ≡ first_fault_after_last_cell at
    → text_end_or_fault (next_word_start at.line at.run at.coming) ≡ r
end_is at r is none reported = by (text_end_or_fault (next_word_start at.line at.run at.coming)) r (end_reported at none is.low ∙ sym reported ∙ same_fault r)
  where
    by : (q r : Result (Unit {0}) GridFault) → fault_in q ≡ fault_in r → q ≡ r
    by (Ok x) (Ok y) e = refl
    by (Ok x) (Err g) e = cc
    by (Err f) (Ok y) e = cc
    by (Err f) (Err g) e = cc

module _ (h : GridHeaderContents) (cols : ℕ) (some : 0 < cols) where
  -- after rows, the reader is at a valid position, and no token is pending after the last row
  pub rows_kept : (n : ℕ) (at : DataPosition) (x : List (List CellValue) × DataPosition) → IsValidDataPosition at
      → items_read_one_after_another (items_read_one_after_another (next_cell_after_position h) cols) n at ≡ Ok x
      → IsValidDataPosition x.1
      × (0 < n → x.1.pending ≡ None)
  rows_kept zero at x is e = (let p : at ≡ x.1 = cc in subst IsValidDataPosition p is, λ none. absurd (omega arith))
  rows_kept (suc n) at x is e = by (items_read_one_after_another
      (items_read_one_after_another (next_cell_after_position h) cols) n at) (rows_kept n at)
      (sym (many_snoc (items_read_one_after_another (next_cell_after_position h) cols) n at) ∙ e)
    where
      last : (y : List (List CellValue) × DataPosition) → IsValidDataPosition y.1
          → (r : ReadValueAndPositionOrFault (List CellValue))
          → items_read_one_after_another (next_cell_after_position h) cols y.1 ≡ r
          → (r >>= (λ z. Ok (y.0 ++ z.0 ∷ [], z.1))) ≡ Ok x
          → IsValidDataPosition x.1 × (0 < suc n → x.1.pending ≡ None)
      last y is (Err f) o e = cc
      last y is (Ok z) o e =
          let kept = cells_kept h cols y.1 z is o in
          let p : ◌≡◌ {A = List (List CellValue) × DataPosition} (y.0 ++ z.0 ∷ [], z.1) x = cc in
          subst (λ (w : List (List CellValue) × DataPosition). IsValidDataPosition w.1 × (0 < suc n
          → w.1.pending ≡ None)) p (kept.0, λ _. kept.1 some)

      by : (r : ReadValueAndPositionOrFault (List (List CellValue)))
          → ((y : List (List CellValue) × DataPosition) → IsValidDataPosition at → r ≡ Ok y
          → IsValidDataPosition y.1 × (0 < n → y.1.pending ≡ None))
          → (r >>= with_last (items_read_one_after_another (next_cell_after_position h) cols)) ≡ Ok x
          → IsValidDataPosition x.1
          × (0 < suc n → x.1.pending ≡ None)
      by (Err f) on e = cc
      by (Ok y) on e = last y (on y is refl).0 (items_read_one_after_another
          (next_cell_after_position h) cols y.1) refl e

-- the line numbers of a grid fit within their limit
pub lines_fit : (line rows cols : ℕ) → line < 2 ^ 62 → rows ≤ 65535 → cols ≤ 65535
    → line + (rows * cols + 1) * 1048577 < 2 ^ 63
lines_fit line rows cols low high wide = let most : rows * cols ≤ 65535 * 65535 = mul-le-mul high wide in omega arith

-- the line numbers of the remaining rows fit within their limit
pub rows_fit : (line more rows left some cols size : ℕ) → left + some ≡ rows → size ≡ some * cols
    → more ≤ line + size * 1048577 → line + (rows * cols + 1) * 1048577 < 2 ^ 63
    → more + (left * cols + 1) * 1048577 < 2 ^ 63
rows_fit line more rows left some cols size all is low fits =
    let e : rows * cols ≡ left * cols + size = rw (← all, is) (add-mul left some cols) in omega arith
