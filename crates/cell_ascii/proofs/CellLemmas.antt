-- The next cell, and n cells one after another.
use Rattle.std.proofs.Common.{◌≡◌, ℕ, [], ◌++◌, append_assoc, append-nil, ◌+◌, ◌-◌, ◌≤◌, arith, List, length, Option, Some, None, Result, Ok, Err, Bool, true, false, ℤ, ◌*ℤ◌, if◌then◌else◌, bytes_eq, refl, ap, sym, ◌∙◌}
use Rattle.std.specs.Result.{IfErr}
use Rattle.cell_core_devices.specs.Device.{ComingBytes}
use Rattle.cell_core_devices.specs.Supposed.{EqualBeforeAndAfterReads}
use Rattle.cell_core.specs.Grid.{CellValue}
use Rattle.cell_ascii_reading.specs.Ahead.{BytesAhead}
use Rattle.cell_ascii_meaning.specs.GridTokens.{NextWordStart, Begins, Ends, Stops, next_word_start}
use Rattle.cell_ascii_meaning.specs.GridTokens.{word_continued_in_bytes}
use Rattle.cell_ascii_meaning.specs.Header.{◌>>=◌, DataPosition, GridHeaderContents, result_with_line_in_fault}
use Rattle.cell_ascii_meaning.specs.CellTexts.{ReadValueAndPositionOrFault, cell_at_word_start, cell_of_word_at_line, cell_and_position_after_word, next_cell_after_position, cell_of_number, cell_of_word, position_without_pending_word, items_read_one_after_another}
use Rattle.cell_ascii_meaning.specs.Kinds.{IsFaultOfText}
use Rattle.cell_ascii_meaning.specs.EdgeNumbers.{whole_number_of_text, is_in_category_range}
use Rattle.cell_ascii.specs.Reader.{CellReaderValue, next_word_with_line, word_and_line_from_scanner_result}
use Rattle.cell_ascii.specs.Reader.{value_and_position_or_fault}
use Rattle.cell_ascii_meaning.specs.declared.grid_fault.GridFault.{GridFault}
use Rattle.cell_ascii_meaning.specs.declared.grid_fault.GridKind.{GridKind}
use Rattle.cell_ascii_meaning.specs.declared.grid_fault.GridKind.TheVariants.{CellRange}
use Rattle.cell_ascii_reading.proofs.MapLemmas.{chain, then_map, map_same}
use Rattle.cell_ascii_reading.proofs.LeadLemmas.{Contents}
use Rattle.cell_ascii.proofs.ManyLemmas.{many_add, glue, and_then}

-- the place of a reader after a cell
abbrev pub place_after : GridHeaderContents → ℕ → BytesAhead → CellReaderValue
place_after h line ahead = record { header = h; pending = None; line = line; run = 0; ahead = ahead }

judged : (h : GridHeaderContents) (line : ℕ) (ahead : BytesAhead) (c : ComingBytes) (r : Result CellValue GridKind) → cell_and_position_after_word line c r ≡ value_and_position_or_fault (result_with_line_in_fault line r) (place_after h line ahead) c
judged h line ahead c (Ok v) = refl
judged h line ahead c (Err kind) = refl

-- a pending word is read as the next cell
pub cell_pending : (h : GridHeaderContents) (word : List ℕ) (line run : ℕ) (ahead : BytesAhead) (a : Contents)
    → EqualBeforeAndAfterReads (λ c. next_cell_after_position h (record { pending = Some word; line = line; run = run; coming = c })) a (value_and_position_or_fault (result_with_line_in_fault line (cell_of_word h word)) (place_after h line ahead)) a
unfolding next_cell_after_position
cell_pending h word line run ahead a =
    map_same (λ c. cell_and_position_after_word line c (cell_of_word h word)) (value_and_position_or_fault (result_with_line_in_fault line (cell_of_word h word)) (place_after h line ahead)) a (λ c. judged h line ahead c (cell_of_word h word))

abbrev after_token : GridHeaderContents → Result (ℕ × (List ℕ × ComingBytes)) GridFault
    → ReadValueAndPositionOrFault CellValue
after_token h (Ok (line, (word, c))) = cell_and_position_after_word line c (cell_of_word h word)
after_token h (Err f) = Err f

word_token : (h : GridHeaderContents) (line : ℕ) (r : Result (List ℕ × ComingBytes) GridFault) → cell_of_word_at_line h line r ≡ after_token h (r >>= (λ w. Ok (line, w)))
word_token h line (Ok (word, c)) = refl
word_token h line (Err f) = refl

start_token : (h : GridHeaderContents) (s : NextWordStart) → cell_at_word_start h s
    ≡ after_token h (next_word_with_line s)
start_token h (Begins line c) = word_token h line (word_continued_in_bytes line [] c)
start_token h (Ends line) = refl
start_token h (Stops f) = refl

module _ (h : GridHeaderContents) (line run : ℕ) (a b : Contents) (r : Result (Unit {0}) GridFault) (l : ℕ)
    (word : List ℕ) (read : EqualBeforeAndAfterReads (λ c. next_word_with_line (next_word_start line run c)) a
    (word_and_line_from_scanner_result r l word) b) where
  token_cell : EqualBeforeAndAfterReads (λ c. next_cell_after_position h (position_without_pending_word line run c)) a
      (λ c. after_token h (word_and_line_from_scanner_result r l word c)) b
  unfolding next_cell_after_position
  token_cell =
      chain (λ c. cell_at_word_start h (next_word_start line run c)) (λ c. after_token h (next_word_with_line (next_word_start line run c))) (λ c. after_token h (word_and_line_from_scanner_result r l word c)) a a b
      (map_same (λ c. cell_at_word_start h (next_word_start line run c)) (λ c. after_token h (next_word_with_line (next_word_start line run c))) a (λ c. start_token h (next_word_start line run c)))
      (then_map (after_token h) (λ c. next_word_with_line (next_word_start line run c))
      (word_and_line_from_scanner_result r l word) a b read)

-- the next word of the text is read as the next cell
pub cell_read : (h : GridHeaderContents) (line run : ℕ) (a b : Contents) (l : ℕ) (word : List ℕ) (ahead : BytesAhead)
    → EqualBeforeAndAfterReads (λ c. next_word_with_line (next_word_start line run c)) a
    (word_and_line_from_scanner_result (Ok tt) l word) b
    → EqualBeforeAndAfterReads (λ c. next_cell_after_position h (position_without_pending_word line run c)) a (value_and_position_or_fault (result_with_line_in_fault l (cell_of_word h word)) (place_after h l ahead)) b
cell_read h line run a b l word ahead read =
    let seen : ComingBytes → ReadValueAndPositionOrFault CellValue = value_and_position_or_fault
    (result_with_line_in_fault l (cell_of_word h word)) (place_after h l ahead) in
    chain (λ c. next_cell_after_position h (position_without_pending_word line run c))
    (λ c. cell_and_position_after_word l c
    (cell_of_word h word)) seen a b b
    (token_cell h line run a b (Ok tt) l word read)
    (map_same (λ c. cell_and_position_after_word l c (cell_of_word h word)) seen b
    (λ c. judged h l ahead c (cell_of_word h word)))

pub cell_fails : (h : GridHeaderContents) (line run : ℕ) (a b : Contents) (l : ℕ) (word : List ℕ) (f : GridFault)
    → EqualBeforeAndAfterReads (λ c. next_word_with_line (next_word_start line run c)) a
    (word_and_line_from_scanner_result (Err f) l word) b
    → EqualBeforeAndAfterReads (λ c. next_cell_after_position h (position_without_pending_word line run c)) a
    (λ c. Err f) b
cell_fails h line run a b l word f read = token_cell h line run a b (Err f) l word read

number_faults : (line : ℕ) (m : ℤ) (n : Option ℤ) → IfErr (result_with_line_in_fault line (cell_of_number m n))
    (λ f. IsFaultOfText f.kind)
number_faults line m None = tt
number_faults line m (Some n) = by (is_in_category_range n) (is_in_category_range (n *ℤ m))
  where
    by : (low high : Bool) → IfErr (result_with_line_in_fault line (if low then (if high then Ok (Some (n *ℤ m)) else Err CellRange) else Err CellRange)) (λ f. IsFaultOfText f.kind)
    by true true = tt
    by true false = tt
    by false high = tt

-- the error of an invalid word is an error of the text
pub cell_faults : (h : GridHeaderContents) (word : List ℕ) (line : ℕ) → IfErr (result_with_line_in_fault line (cell_of_word h word)) (λ f. IsFaultOfText f.kind)
cell_faults h word line = by (bytes_eq word h.null_text)
  where
    by : (null : Bool) → IfErr (result_with_line_in_fault line (if null then Ok None else cell_of_number h.multiplier (whole_number_of_text word))) (λ f. IsFaultOfText f.kind)
    by true = tt
    by false = number_faults line h.multiplier (whole_number_of_text word)

-- a reading whose items follow those read before
abbrev pub with_front : {X : Type 0} → List X → ReadValueAndPositionOrFault (List X)
    → ReadValueAndPositionOrFault (List X)
with_front front (Ok x) = Ok (front ++ x.0, x.1)
with_front front (Err f) = Err f

-- before any item is read, the remaining items are all items
pub none_read : {X : Type 0} (one : DataPosition → ReadValueAndPositionOrFault X) (n : ℕ) (here : ComingBytes → DataPosition) (a : Contents) (front : List X) → front ≡ []
    → EqualBeforeAndAfterReads (λ c. items_read_one_after_another one n (here c)) a
    (λ c. with_front front (items_read_one_after_another one (n - length front)
    (here c))) a
none_read {X} one n here a front none =
    let all : n ≡ n - length front = rw none (omega arith) in
    map_same (λ c. items_read_one_after_another one n (here c))
    (λ c. with_front front (items_read_one_after_another one (n - length front) (here c))) a
    (λ c. same (items_read_one_after_another one n (here c)) ∙
    (λ j. with_front (sym none j) (items_read_one_after_another one (all j) (here c))))
  where
    same : (r : ReadValueAndPositionOrFault (List X)) → r ≡ with_front [] r
    same (Ok x) = refl
    same (Err f) = refl

-- after all items are read, none remain
pub all_read : {X : Type 0} (one : DataPosition → ReadValueAndPositionOrFault X) (n i : ℕ) (at : DataPosition) (front : List X) → i ≡ n → with_front front (items_read_one_after_another one (n - i) at) ≡ Ok (front, at)
all_read {X} one n i at front all =
    let none : n - i ≡ 0 = omega arith in
    ap (λ (m : ℕ). with_front front (items_read_one_after_another one m at)) none
    ∙ ap (λ (l : List X). Ok (l, at)) (append-nil front)

-- the remaining items after some more were read
abbrev with_next : {X : Type 0} → (DataPosition → ReadValueAndPositionOrFault X) → ℕ → List X
    → ReadValueAndPositionOrFault (List X)
    → ReadValueAndPositionOrFault (List X)
with_next one n front (Ok x) = with_front (front ++ x.0) (items_read_one_after_another one n x.1)
with_next one n front (Err f) = Err f

many_more : {X : Type 0} (one : DataPosition → ReadValueAndPositionOrFault X) (k n : ℕ) (front : List X) (at : DataPosition) → with_front front (items_read_one_after_another one (k + n) at) ≡ with_next one n front (items_read_one_after_another one k at)
many_more {X} one k n front at = ap (with_front front) (many_add one k n at)
    ∙ by (items_read_one_after_another one k at)
  where
    rest : (xs : List X) (r : ReadValueAndPositionOrFault (List X)) → with_front front (r >>= glue one xs)
        ≡ with_front (front ++ xs) r
    rest xs (Ok y) = ap (λ l. Ok (l, y.1)) (sym (append_assoc front xs y.0))
    rest xs (Err f) = refl

    by : (r : ReadValueAndPositionOrFault (List X)) → with_front front (r >>= and_then one n) ≡ with_next one n front r
    by (Ok x) = rest x.0 (items_read_one_after_another one n x.1)
    by (Err f) = refl

less_some : (n i k : ℕ) → i + k ≤ n → n - i ≡ k + (n - (i + k))
less_some n i k h = omega arith

module _ {X : Type 0} (one : DataPosition → ReadValueAndPositionOrFault X) (F : ComingBytes → ReadValueAndPositionOrFault (List X)) (a b d : Contents) (front : List X) (n i k : ℕ) (here : ComingBytes → DataPosition) (in_range : i + k ≤ n)
    (so_far : EqualBeforeAndAfterReads F a (λ c. with_front front (items_read_one_after_another one (n - i)
    (here c))) b) where
  abbrev then_next : ComingBytes → ReadValueAndPositionOrFault (List X)
  then_next c = with_next one (n - (i + k)) front (items_read_one_after_another one k (here c))

  next : EqualBeforeAndAfterReads F a then_next b
  next = chain F (λ c. with_front front (items_read_one_after_another one (n - i) (here c))) then_next a b b so_far
      (map_same (λ c. with_front front (items_read_one_after_another one (n - i) (here c))) then_next b
      (λ c. ap (λ (m : ℕ). with_front front (items_read_one_after_another one m (here c))) (less_some n i k in_range) ∙ many_more one k (n - (i + k)) front (here c)))

  -- reading k more items adds them to the items read before
  pub more_read : (xs : List X) (there : ComingBytes → DataPosition)
      → EqualBeforeAndAfterReads (λ c. items_read_one_after_another one k (here c)) b (λ c. Ok (xs, there c)) d
      → EqualBeforeAndAfterReads F a (λ c. with_front (front ++ xs) (items_read_one_after_another one (n - (i + k))
      (there c))) d
  more_read xs there e = chain F then_next (λ c. with_front (front
      ++ xs) (items_read_one_after_another one (n - (i + k)) (there c))) a b d next
      (then_map (with_next one (n - (i + k)) front) (λ c. items_read_one_after_another one k (here c))
      (λ c. Ok (xs, there c)) b d e)

  -- an error among the next k items is the error of the reading
  pub more_fails : (f : GridFault) → EqualBeforeAndAfterReads (λ c. items_read_one_after_another one k (here c)) b
      (λ c. Err f) d
      → EqualBeforeAndAfterReads F a (λ c. Err f) d
  more_fails f e = chain F then_next (λ c. Err f) a b d next
      (then_map (with_next one (n - (i + k)) front) (λ c. items_read_one_after_another one k (here c))
      (λ c. Err f) b d e)
