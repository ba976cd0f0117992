-- Cells one after another, separated by blanks and line feeds.
use Rattle.std.proofs.Common.{◌≡◌, ℕ, zero, suc, ◌+◌, ◌-◌, ◌<◌, ◌≤◌, List, [], ◌∷◌, ◌++◌, length, take, drop, get_or, Bool, true, false, Option, Some, None, Ok, cond, refl, ap, ap₂, sym, ◌∙◌, arith, append_assoc, length-take, length-drop}
use Rattle.std.specs.Prelude.{◌==◌, ◌||◌}
use Rattle.std.specs.Option.{option_map, IfSome}
use Rattle.std.specs.List.{list_all}
use Rattle.std.proofs.Math.Seq.{take-add}
use Rattle.std.proofs.lemmas.List.{take-append-drop, take-append-le, drop-drop, drop_more, get_or-drop}
use Rattle.std.proofs.lemmas.List.Sums.{sum_by-append}
use Rattle.cell_core_devices.specs.Device.{ComingBytes}
use Rattle.cell_core_devices.specs.Supposed.{SupposedContent, content_to_come, EqualBeforeAndAfterReads}
use Rattle.cell_core.specs.Grid.{CellValue}
use Rattle.cell_ascii_reading.specs.Ahead.{bytes_to_come_with_prefix}
use Rattle.cell_ascii_meaning.specs.GridTokens.{is_space, is_word_byte, line_feed_count, next_word_start}
use Rattle.cell_ascii_meaning.specs.Header.{◌>>=◌, GridHeaderContents}
use Rattle.cell_ascii_meaning.specs.CellTexts.{ReadValueAndPositionOrFault, next_cell_after_position, cell_of_word, cell_at_word_start, cell_of_word_at_line, cell_and_position_after_word, position_without_pending_word, items_read_one_after_another}
use Rattle.cell_ascii.specs.BufferedCells.{BytesHoldNextCells, blank_run_length_after_cells}
use Rattle.cell_ascii.specs.TableWords.{BytesHoldNextCellsAndLineFeeds, AreNextCellsReadIntoRow}
use Rattle.cell_ascii.proofs.BufferedLemmas.{both, no_space, word_ahead}
use Rattle.cell_ascii.proofs.ManyLemmas.{many_more, many_add, snoc, with_last, glue, and_then}
use Rattle.cell_ascii_meaning.proofs.TokenLemmas.{start-next, start-begins}
use Rattle.cell_ascii.proofs.BufferedRowLemmas.{lent_rest}
use Rattle.cell_ascii.specs.parts.InLine.{AreCellsOfLineReadIntoRow}

line_feed_count-append : (xs ys : List ℕ) → line_feed_count (xs ++ ys) ≡ line_feed_count xs + line_feed_count ys
line_feed_count-append xs ys = sum_by-append (λ (x : ℕ). cond (x == 10) 1 0) xs ys

-- blanks and line feeds before a word are skipped
gap_passed : (line run : ℕ) (gap rest : List ℕ) (f : Bool) → list_all is_space gap ≡ true → run + length gap ≤ 1048576
    → next_word_start line run (record { bytes = gap ++ rest; fails = f }) ≡ next_word_start (line + line_feed_count gap) (run + length gap) (record { bytes = rest; fails = f })
gap_passed line run [] rest f blank room =
    let stays : line ≡ line + line_feed_count [] = omega arith in
    let still : run ≡ run + 0 = omega arith in
    ap₂ (λ (l : ℕ) (r : ℕ). next_word_start l r (record { bytes = rest; fails = f })) stays still
gap_passed line run (b ∷ gap) rest f blank room =
    let parts = both (is_space b) (list_all is_space gap) blank in
    let low : run ≤ 1048576 = omega arith in
    let lower : run < 1048576 = omega arith in
    let more : run + 1 + length gap ≤ 1048576 = omega arith in
    let count : run + 1 + length gap ≡ run + suc (length gap) = omega arith in
    let lines : line + cond (b == 10) 1 0 + line_feed_count gap ≡ line + line_feed_count (b ∷ gap) = omega (arith, line_feed_count-append (b ∷ []) gap) in
    start-next line run low b (line + cond (b == 10) 1 0) (gap ++ rest) f parts.0 lower refl
    ∙ gap_passed (line + cond (b == 10) 1 0) (run + 1) gap rest f parts.1 more
    ∙ ap₂ (λ (l : ℕ) (r : ℕ). next_word_start l r (record { bytes = rest; fails = f })) lines count

-- a word after blanks and line feeds is read as the next cell
reads_next : (h : GridHeaderContents) (gap word : List ℕ) (e : ℕ) (bs : List ℕ) (f : Bool) (v : CellValue)
    → list_all is_space gap ≡ true → length gap ≤ 64 → 0 < length word → length word ≤ 64 → list_all is_word_byte word ≡ true → is_space e ≡ true → cell_of_word h word ≡ Ok v
    → (line : ℕ) → next_cell_after_position h (position_without_pending_word line 0 (record { bytes = gap ++ (word ++ e ∷ bs); fails = f })) ≡ Ok (v, position_without_pending_word (line + line_feed_count gap) 0 (record { bytes = e ∷ bs; fails = f }))
unfolding next_cell_after_position
reads_next h gap [] e bs f v blank few some short w space cell line = absurd (omega arith)
reads_next h gap (a ∷ word) e bs f v blank few some short w space cell line =
    let parts = both (is_word_byte a) (list_all is_word_byte word) w in
    let room : 0 + length gap ≤ 1048576 = omega arith in
    let count : 0 + length (a ∷ word) ≤ 64 = omega arith in
    let there = line + line_feed_count gap in
    ap (cell_at_word_start h) (gap_passed line 0 gap (a ∷ (word ++ e ∷ bs)) f blank room ∙ start-begins there (0 + length gap) room a (word ++ e ∷ bs) f (no_space a parts.0))
    ∙ ap (cell_of_word_at_line h there) (word_ahead there [] (a ∷ word) e bs f w count space)
    ∙ ap (cell_and_position_after_word there (record { bytes = e ∷ bs; fails = f })) cell

-- in a list of bytes, a gap, a word and the blank that ends it are read as the next cell
next_cell : (h : GridHeaderContents) (bs : List ℕ) (g n : ℕ) (v : CellValue)
    → list_all is_space (take g bs) ≡ true → g ≤ 64 → 0 < n → n ≤ 64 → g + n < length bs → list_all is_word_byte (take n (drop g bs)) ≡ true → is_space (get_or bs (g + n) 0) ≡ true
    → cell_of_word h (take n (drop g bs)) ≡ Ok v
    → (line : ℕ) (c : ComingBytes) → next_cell_after_position h (position_without_pending_word line 0 (bytes_to_come_with_prefix bs c)) ≡ Ok (v, position_without_pending_word (line + line_feed_count (take g bs)) 0 (bytes_to_come_with_prefix (drop (g + n) bs) c))
next_cell h bs g n v blank few some short within word space cell line c =
    let gap = take g bs in
    let w = take n (drop g bs) in
    let e = get_or bs (g + n) 0 in
    let more = drop (g + n + 1) bs ++ c.bytes in
    let behind : drop (g + n) bs ≡ e ∷ drop (g + n + 1) bs = drop_more bs (g + n) 0 within in
    let split : bs ≡ gap ++ (w ++ (e ∷ drop (g + n + 1) bs)) =
    sym (take-append-drop g bs) ∙ ap (λ (l : List ℕ). gap ++ l) (sym (take-append-drop n (drop g bs)) ∙ ap (λ (l : List ℕ). w ++ l) (drop-drop n g bs ∙ behind)) in
    let whole : bs ++ c.bytes ≡ gap ++ (w ++ (e ∷ more)) =
    ap (λ (l : List ℕ). l ++ c.bytes) split ∙ append_assoc gap (w ++ (e ∷ drop (g + n + 1) bs)) c.bytes ∙ ap (λ (l : List ℕ). gap ++ l) (append_assoc w (e ∷ drop (g + n + 1) bs) c.bytes) in
    let size : length w ≡ n = omega (arith, length-take n (drop g bs), length-drop g bs) in
    let size-gap : length gap ≤ 64 = omega (arith, length-take g bs) in
    let filled : 0 < length w = omega arith in
    let fits : length w ≤ 64 = omega arith in
    ap (λ (l : List ℕ). next_cell_after_position h (position_without_pending_word line 0
    (record { bytes = l; fails = c.fails }))) whole
    ∙ reads_next h gap w e more c.fails v blank size-gap filled fits word space cell line
    ∙ ap (λ (l : List ℕ). Ok (v, position_without_pending_word (line + line_feed_count gap) 0 (record { bytes = l ++ c.bytes; fails = c.fails }))) (sym behind)

module _ (h : GridHeaderContents) (bs : List ℕ) where
  pub BytesHoldNextCellsAndLineFeeds-none : BytesHoldNextCellsAndLineFeeds h bs [] 0 0 0
  BytesHoldNextCellsAndLineFeeds-none = λ line c. let same : line ≡ line + 0 = omega arith in ap (λ (l : ℕ). Ok ([], position_without_pending_word l 0 (bytes_to_come_with_prefix bs c))) same

  -- bytes that hold some cells on lines, followed by one more cell, hold all of these cells
  lines-more : (cells : List CellValue) (count n lines : ℕ) (v : CellValue) (m k : ℕ) → BytesHoldNextCellsAndLineFeeds h bs cells count n lines
      → ((line : ℕ) (c : ComingBytes) → next_cell_after_position h (position_without_pending_word line 0 (bytes_to_come_with_prefix (drop n bs) c)) ≡ Ok (v, position_without_pending_word (line + k) 0 (bytes_to_come_with_prefix (drop m (drop n bs)) c)))
      → BytesHoldNextCellsAndLineFeeds h bs (cells ++ v ∷ []) (count + 1) (n + m) (lines + k)
  lines-more cells count n lines v m k buffered next = λ line c.
      let all : line + lines + k ≡ line + (lines + k) = omega arith in
      many_more (next_cell_after_position h) count (position_without_pending_word line 0
      (bytes_to_come_with_prefix bs c))
      ∙ ap (λ (r : ReadValueAndPositionOrFault (List CellValue)). r >>= with_last (next_cell_after_position h))
      (buffered line c)
      ∙ ap (λ (r : ReadValueAndPositionOrFault CellValue). r >>= snoc (next_cell_after_position h) cells)
      (next (line + lines) c)
      ∙ ap (λ (l : ℕ). Ok (
        cells ++ v ∷ [],
        position_without_pending_word l 0
            (bytes_to_come_with_prefix (drop m (drop n bs)) c),
      )) all
      ∙ ap (λ (rest : List ℕ). Ok (cells ++ v ∷ [], position_without_pending_word (line + (lines + k)) 0 (bytes_to_come_with_prefix rest c))) (drop-drop m n bs)

  -- bytes that hold some cells on lines, followed by more cells, hold all of these cells
  pub BytesHoldNextCellsAndLineFeeds-append : (cells others : List CellValue) (count more n m lines k : ℕ) → BytesHoldNextCellsAndLineFeeds h bs cells count n lines → BytesHoldNextCellsAndLineFeeds h (drop n bs) others more m k
      → BytesHoldNextCellsAndLineFeeds h bs (cells ++ others) (count + more) (n + m) (lines + k)
  BytesHoldNextCellsAndLineFeeds-append cells others count more n m lines k buffered next = λ line c.
      let all : line + lines + k ≡ line + (lines + k) = omega arith in
      many_add (next_cell_after_position h) count more (position_without_pending_word line 0
      (bytes_to_come_with_prefix bs c))
      ∙ ap (λ (r : ReadValueAndPositionOrFault (List CellValue)). r >>= and_then (next_cell_after_position h) more)
      (buffered line c)
      ∙ ap (λ (r : ReadValueAndPositionOrFault (List CellValue)). r >>= glue (next_cell_after_position h) cells)
      (next (line + lines) c)
      ∙ ap (λ (l : ℕ). Ok (
        cells ++ others,
        position_without_pending_word l 0
            (bytes_to_come_with_prefix (drop m (drop n bs)) c),
      )) all
      ∙ ap (λ (rest : List ℕ). Ok (cells ++ others, position_without_pending_word (line + (lines + k)) 0 (bytes_to_come_with_prefix rest c))) (drop-drop m n bs)

  run-none : (count : ℕ) → blank_run_length_after_cells 0 count ≡ 0
  run-none zero = refl
  run-none (suc count) = refl

  -- cells separated by single spaces are on one line
  pub on_one_line : (cells : List CellValue) (count n : ℕ) → BytesHoldNextCells h bs cells count n → BytesHoldNextCellsAndLineFeeds h bs cells count n 0
  on_one_line cells count n buffered = λ line c.
      let low : 0 < 1048576 = omega arith in
      let same : line ≡ line + 0 = omega arith in
      buffered line 0 low c ∙ ap₂ (λ (l : ℕ) (r : ℕ). Ok (cells, position_without_pending_word l r (bytes_to_come_with_prefix (drop n bs) c))) same (run-none count)

-- a word contains no line feed
word_feeds : (word : List ℕ) → list_all is_word_byte word ≡ true → line_feed_count word ≡ 0
word_feeds [] w = refl
word_feeds (b ∷ word) w =
    let parts = both (is_word_byte b) (list_all is_word_byte word) w in
    let none : ◌≡◌ {A = ℕ} (cond (b == 10) 1 0) 0 = by (b == 10) (no_feed (b == 32 || b == 9) (b == 13) (b == 10) (no_space b parts.0)) in
    omega (arith, none, line_feed_count-append (b ∷ []) word, word_feeds word parts.1)
  where
    no_feed : (p q r : Bool) → (p || (q || r)) ≡ false → r ≡ false
    no_feed true q r e = cc
    no_feed false true r e = cc
    no_feed false false r e = e

    by : (r : Bool) → r ≡ false → ◌≡◌ {A = ℕ} (cond r 1 0) 0
    by r e = ap (λ (t : Bool). cond t 1 0) e

list-all-append : (xs ys : List ℕ) → list_all is_space xs ≡ true → list_all is_space ys ≡ true → list_all is_space (xs ++ ys) ≡ true
list-all-append [] ys e f = f
list-all-append (x ∷ xs) ys e f = let parts = both (is_space x) (list_all is_space xs) e in rw (parts.0, list-all-append xs ys parts.1 f) refl

-- a gap and the blanks after it are a gap
pub gap-more : (bs : List ℕ) (last at behind : ℕ) → last ≤ at → at ≤ behind
    → list_all is_space (take (at - last) (drop last bs)) ≡ true → list_all is_space (take (behind - at) (drop at bs)) ≡ true
    → list_all is_space (take (behind - last) (drop last bs)) ≡ true
gap-more bs last at behind le further gap more =
    let g = at - last in
    let n = behind - at in
    let size : behind - last ≡ g + n = omega arith in
    let place : last + g ≡ at = omega arith in
    let later : take n (drop g (drop last bs)) ≡ take n (drop at bs) =
    ap (take n) (drop-drop g last bs ∙ ap (λ (k : ℕ). drop k bs) place) in
    ap (λ (k : ℕ). list_all is_space (take k (drop last bs))) size
    ∙ ap (list_all is_space) (take-add g n (drop last bs) ∙ ap (λ (l : List ℕ). take g (drop last bs) ++ l) later)
    ∙ list-all-append (take g (drop last bs)) (take n (drop at bs)) gap more

-- one blank is a gap
pub gap-one : (bs : List ℕ) (at : ℕ) → at < length bs → is_space (get_or bs at 0) ≡ true → list_all is_space (take (at + 1 - at) (drop at bs)) ≡ true
gap-one bs at within blank =
    let one : at + 1 - at ≡ 1 = omega arith in
    let here : take 1 (drop at bs) ≡ get_or bs at 0 ∷ [] = ap (take 1) (drop_more bs at 0 within) in
    ap (λ (k : ℕ). list_all is_space (take k (drop at bs))) one ∙ ap (list_all is_space) here ∙ rw blank refl

-- bytes that hold some cells on lines, followed by one more word, also hold the cell of the word
pub word-more : (h : GridHeaderContents) (bs : List ℕ) (cells : List CellValue) (count last at end : ℕ) (v : CellValue)
    → last ≤ at → at < end → end < 64 → end < length bs → list_all is_space (take (at - last) (drop last bs)) ≡ true → list_all is_word_byte (take (end - at) (drop at bs)) ≡ true
    → is_space (get_or bs end 0) ≡ true → cell_of_word h (take (end - at) (drop at bs)) ≡ Ok v → BytesHoldNextCellsAndLineFeeds h bs cells count last (line_feed_count (take last bs))
    → BytesHoldNextCellsAndLineFeeds h bs (cells ++ v ∷ []) (count + 1) end (line_feed_count (take end bs))
word-more h bs cells count last at end v le lower few within gap word blank cell buffered =
    let g = at - last in
    let n = end - at in
    let rest = drop last bs in
    let place : last + g ≡ at = omega arith in
    let sum : last + (g + n) ≡ end = omega arith in
    let later : drop g rest ≡ drop at bs = drop-drop g last bs ∙ ap (λ (k : ℕ). drop k bs) place in
    let inside : g + n < length rest = omega (arith, length-drop last bs) in
    let ends : is_space (get_or rest (g + n) 0) ≡ true = ap is_space (get_or-drop last bs (g + n) 0 ∙ ap (λ (k : ℕ). get_or bs k 0) sum) ∙ blank in
    let w : list_all is_word_byte (take n (drop g rest)) ≡ true = ap (λ (l : List ℕ). list_all is_word_byte (take n l)) later ∙ word in
    let is : cell_of_word h (take n (drop g rest)) ≡ Ok v = ap (λ (l : List ℕ). cell_of_word h (take n l)) later ∙ cell in
    let few-blanks : g ≤ 64 = omega arith in
    let some : 0 < n = omega arith in
    let short : n ≤ 64 = omega arith in
    let next = next_cell h rest g n v gap few-blanks some short inside w ends is in
    let parts : take end bs ≡ take last bs ++ (take g rest ++ take n (drop g rest)) =
    ap (λ (k : ℕ). take k bs) (sym sum) ∙ take-add last (g + n) bs ∙ ap (λ (l : List ℕ). take last bs ++ l) (take-add g n rest) in
    let lines : line_feed_count (take last bs) + line_feed_count (take g rest) ≡ line_feed_count (take end bs) =
    omega (arith, ap line_feed_count parts, line_feed_count-append (take last bs) (take g rest ++ take n (drop g rest)), line_feed_count-append (take g rest) (take n (drop g rest)), word_feeds (take n (drop g rest)) w) in
    rw (sum, lines) at (lines-more h bs cells count last (line_feed_count (take last bs)) v (g + n) (line_feed_count (take g rest)) buffered next)

-- the reading of all the coming bytes begins with the buffered cells
pub lines_buffered : (h : GridHeaderContents) (line lines : ℕ) (bs : List ℕ) (rest : SupposedContent) (cells : List CellValue) (count n : ℕ) → BytesHoldNextCellsAndLineFeeds h bs cells count n lines
    → EqualBeforeAndAfterReads (λ c. items_read_one_after_another (next_cell_after_position h) count (position_without_pending_word line 0 c)) (λ t. option_map (bytes_to_come_with_prefix bs) (content_to_come rest t)) (λ d. Ok (cells, position_without_pending_word (line + lines) 0 d)) (λ t. option_map (bytes_to_come_with_prefix (drop n bs)) (content_to_come rest t))
lines_buffered h line lines bs rest cells count n buffered = λ t. by (content_to_come rest t)
  where
    by : (x : Option ComingBytes) → IfSome (option_map (bytes_to_come_with_prefix (drop n bs)) x) (λ d. option_map (λ c. items_read_one_after_another (next_cell_after_position h) count (position_without_pending_word line 0 c)) (option_map (bytes_to_come_with_prefix bs) x) ≡ Some (Ok (cells, position_without_pending_word (line + lines) 0 d)))
    by None = tt
    by (Some c) = ap Some (buffered line c)

-- the number of line feeds among n bytes is at most n
pub line_feed_count-few : (bs : List ℕ) (n : ℕ) → line_feed_count (take n bs) ≤ n
line_feed_count-few bs zero = omega arith
line_feed_count-few [] (suc n) = omega arith
line_feed_count-few (b ∷ bs) (suc n) = omega (arith, at_most (b == 10), line_feed_count-append (b ∷ []) (take n bs), line_feed_count-few bs n)
  where
    at_most : (t : Bool) → cond t 1 0 ≤ 1
    at_most true = omega arith
    at_most false = omega arith

-- cells read into the lent start of a row are cells read into the row
pub lent_cells : (h : GridHeaderContents) (bs : List ℕ) (end : ℕ) (part row : List CellValue) (read : ℕ × ℕ × ℕ)
    → length part ≡ length (take end row) → AreNextCellsReadIntoRow h bs (take end row) part read
    → AreNextCellsReadIntoRow h bs row (part ++ drop end row) read
lent_cells h bs end part row read size is = record {
  cells = rw (take-append-le read.0 part (drop end row) (omega (arith, size, is.count))) is.cells;
  count = omega (arith, is.count, length-take end row);
  within = is.within;
  among = is.among;
  lines = is.lines;
  rest = lent_rest read.0 end part row is.count size is.rest;
}

-- cells separated by single spaces are read without a line feed
pub in_line_read : (h : GridHeaderContents) (bs : List ℕ) (old new : List CellValue) (read : ℕ × ℕ)
    → AreCellsOfLineReadIntoRow h bs old new read → AreNextCellsReadIntoRow h bs old new (read.0, read.1, 0)
in_line_read h bs old new read is = record {
  cells = on_one_line h bs (take read.0 new) read.0 read.1 is.cells;
  count = is.count;
  within = is.within;
  among = omega arith;
  lines = omega arith;
  rest = is.rest;
}
