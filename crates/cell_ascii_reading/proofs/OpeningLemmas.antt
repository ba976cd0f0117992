-- The lines of a header, read from their values, their ends and their first words.
use Rattle.std.proofs.Common.{◌≡◌, ℕ, suc, ◌+◌, ◌-◌, ◌<◌, ◌≤◌, List, [], ◌∷◌, Option, Some, None, Result, Ok, Err, Bool, true, false, if◌then◌else◌, length, drop, take, refl, ap, sym, ◌∙◌, arith, take_all, length-drop, cond, not}
use Rattle.std.proofs.lemmas.List.{drop_all}
use Rattle.std.specs.List.{before_first, after_first, list_any, position_or_len}
use Rattle.cell_core_devices.specs.Device.{ComingBytes}
use Rattle.cell_ascii_meaning.specs.GridTokens.{NextWordStart, Begins, Ends, Stops, next_word_start}
use Rattle.cell_ascii_meaning.specs.GridTokens.{word_continued_in_bytes, grid_fault_at_line}
use Rattle.cell_ascii_meaning.specs.Header.{◌>>=◌, HeaderKeyValues, HeaderLineEnd, is_colon, result_with_line_in_fault, key_values_with_header_key, BlankRunEnd, Word, Feed as FeedGap, Last, Fault, header_value_after_colon, header_line_end_or_fault, end_of_continued_blank_run, header_line_after_first_word, rest_of_header_after_line, rest_of_header_from_word, rest_of_header_from_line, HeaderAndDataStart, header_and_data_start, empty_coming_bytes}
use Rattle.cell_ascii_reading.specs.Ahead.{IsSourceAtEndOrFailed, EqualBeforeAndAfterReads}
use Rattle.cell_ascii_meaning.specs.KeyNames.{header_key_with_name}
use Rattle.cell_ascii_meaning.specs.declared.header_key.HeaderKey.{HeaderKey}
use Rattle.cell_ascii_meaning.specs.declared.grid_fault.GridKind.TheVariants.{BadHeader}
use Rattle.cell_ascii_reading.specs.Scan.{word_start_from_call_result, word_from_call_result}
use Rattle.cell_ascii_reading.specs.Opening.{header_value_from_call_result, line_end_from_call_result, key_line_from_call_result, StateAfterHeaderLine, More, Stop, state_after_key_line, state_after_header_line}
use Rattle.cell_ascii_meaning.specs.declared.grid_fault.GridKind.{GridKind}
use Rattle.cell_ascii_meaning.specs.declared.grid_fault.GridFault.{GridFault}
use Rattle.cell_ascii_reading.specs.declared.header_reading.HeaderLineEnding.{HeaderLineEnding}
use Rattle.cell_ascii_reading.specs.declared.header_reading.HeaderLineEnding.TheVariants.{Feed, Text}
use Rattle.cell_ascii_reading.specs.declared.scanner.WordOrTextEnd.TheVariants.{Word as NextWord}
use Rattle.cell_ascii_reading.proofs.MapLemmas.{chain, then_map, map_same}
use Rattle.cell_ascii_reading.proofs.ComingLemmas.{at_end}

-- the bytes after the colon of a word are the value, if there are any
pub value_here : (line : ℕ) (bs : List ℕ) (c : ComingBytes) → 0 < length bs
    → header_value_after_colon line bs c ≡ Ok (bs, c)
value_here line [] c h = absurd (omega arith)
value_here line (b ∷ bs) c h = refl

-- the value after a colon at the end of a word, given how the blanks end
abbrev after_blanks : ℕ → BlankRunEnd → Result (List ℕ × ComingBytes) GridFault
after_blanks line (Word d) = word_continued_in_bytes line [] d
after_blanks line (FeedGap run d) = Err (grid_fault_at_line BadHeader line)
after_blanks line Last = Err (grid_fault_at_line BadHeader line)
after_blanks line (Fault f) = Err f

value_later : (line : ℕ) (c : ComingBytes) (gap : BlankRunEnd) → end_of_continued_blank_run line 0 c ≡ gap
    → header_value_after_colon line [] c ≡ after_blanks line gap
value_later line c (Word d) e = rw e refl
value_later line c (FeedGap run d) e = rw e refl
value_later line c Last e = rw e refl
value_later line c (Fault f) e = rw e refl

pub value_blanks : (line start : ℕ) (word : List ℕ) (seen : ComingBytes → BlankRunEnd) (a b : ComingBytes
    → Option ComingBytes)
    → length word ≤ start → EqualBeforeAndAfterReads (end_of_continued_blank_run line 0) a seen b
    → EqualBeforeAndAfterReads (header_value_after_colon line (drop start word)) a (λ c. after_blanks line (seen c)) b
value_blanks line start word seen a b long gaps =
    rw (drop_all start word long)
    (chain _ _ _ _ _ _
    (map_same (header_value_after_colon line []) (λ c. after_blanks line (end_of_continued_blank_run line 0 c)) a
    (λ c. value_later line c (end_of_continued_blank_run line 0 c) refl))
    (then_map (after_blanks line) (end_of_continued_blank_run line 0) seen a b gaps))

abbrev after_end : Result HeaderKeyValues GridKind → ℕ → Result HeaderLineEnd GridFault
    → Result (HeaderKeyValues × HeaderLineEnd) GridFault
after_end more line r = r >>= (λ end. result_with_line_in_fault line more >>= (λ k. Ok (k, end)))

abbrev after_value : ℕ → HeaderKeyValues → List ℕ → Result (List ℕ × ComingBytes) GridFault
    → Result (HeaderKeyValues × HeaderLineEnd) GridFault
after_value line keys word r = r >>= (λ value. after_end (key_values_with_header_key keys (header_key_with_name (before_first is_colon word)) value.0) line (header_line_end_or_fault line (end_of_continued_blank_run line 0 value.1)))

ends_with : (more : HeaderKeyValues) (line run : ℕ) (e : HeaderLineEnding) (c : ComingBytes) → after_end (Ok more) line (line_end_from_call_result (Ok e) run c) ≡ key_line_from_call_result (Ok e) more run c
ends_with more line run Feed c = refl
ends_with more line run Text c = refl

-- a header line whose value and end were read gives its key
pub key_done : (line : ℕ) (keys : HeaderKeyValues) (word w : List ℕ) (at run : ℕ) (e : HeaderLineEnding)
    (more : HeaderKeyValues)
    (a b d : ComingBytes → Option ComingBytes)
    → EqualBeforeAndAfterReads (header_value_after_colon line (after_first is_colon word)) a
    (header_value_from_call_result (Ok at) w) b
    → EqualBeforeAndAfterReads (λ c. header_line_end_or_fault line (end_of_continued_blank_run line 0 c)) b
    (line_end_from_call_result (Ok e) run) d
    → key_values_with_header_key keys (header_key_with_name (before_first is_colon word)) (drop at w) ≡ Ok more
    → EqualBeforeAndAfterReads (header_line_after_first_word line keys word) a
    (key_line_from_call_result (Ok e) more run) d
key_done line keys word w at run e more a b d values ends given =
    let more_is : Result HeaderKeyValues GridKind = key_values_with_header_key keys
    (header_key_with_name (before_first is_colon word))
    (drop at w) in
    chain _ _ _ _ _ _
    (then_map (after_value line keys word) (header_value_after_colon line (after_first is_colon word))
    (header_value_from_call_result (Ok at) w) a b values)
    (chain _ _ _ _ _ _
    (then_map (after_end more_is line) (λ c. header_line_end_or_fault line (end_of_continued_blank_run line 0 c))
    (line_end_from_call_result (Ok e) run) b d ends)
    (map_same (λ c. after_end more_is line (line_end_from_call_result (Ok e) run c))
    (key_line_from_call_result (Ok e) more run) d
    (λ c. ap (λ (v : Result HeaderKeyValues GridKind). after_end v line (line_end_from_call_result (Ok e) run c)) given
    ∙ ends_with more line run e c)))

-- a header line whose value could not be read gives the error of the value
pub key_unread : (line : ℕ) (keys : HeaderKeyValues) (word w : List ℕ) (run : ℕ) (more : HeaderKeyValues)
    (f : GridFault)
    (a b : ComingBytes → Option ComingBytes)
    → EqualBeforeAndAfterReads (header_value_after_colon line (after_first is_colon word)) a
    (header_value_from_call_result (Err f) w) b
    → EqualBeforeAndAfterReads (header_line_after_first_word line keys word) a
    (key_line_from_call_result (Err f) more run) b
key_unread line keys word w run more f a b values =
    then_map (after_value line keys word) (header_value_after_colon line (after_first is_colon word))
    (header_value_from_call_result (Err f) w) a b
    values

-- a header line whose end could not be read gives the error of the end
pub key_unended : (line : ℕ) (keys : HeaderKeyValues) (word w : List ℕ) (at run : ℕ) (more : HeaderKeyValues)
    (f : GridFault)
    (a b d : ComingBytes → Option ComingBytes)
    → EqualBeforeAndAfterReads (header_value_after_colon line (after_first is_colon word)) a
    (header_value_from_call_result (Ok at) w) b
    → EqualBeforeAndAfterReads (λ c. header_line_end_or_fault line (end_of_continued_blank_run line 0 c)) b
    (line_end_from_call_result (Err f) run) d
    → EqualBeforeAndAfterReads (header_line_after_first_word line keys word) a
    (key_line_from_call_result (Err f) more run) d
key_unended line keys word w at run more f a b d values ends =
    chain _ _ _ _ _ _
    (then_map (after_value line keys word) (header_value_after_colon line (after_first is_colon word))
    (header_value_from_call_result (Ok at) w) a b values)
    (then_map (after_end (key_values_with_header_key keys (header_key_with_name (before_first is_colon word))
    (drop at w)) line)
    (λ c. header_line_end_or_fault line (end_of_continued_blank_run line 0 c))
    (line_end_from_call_result (Err f) run) b d ends)

refused_with : (kind : GridKind) (line run : ℕ) (e : HeaderLineEnding) (c : ComingBytes)
    → after_end (Err kind) line (line_end_from_call_result (Ok e) run c) ≡ Err (grid_fault_at_line kind line)
refused_with kind line run Feed c = refl
refused_with kind line run Text c = refl

-- a header line whose key or value is rejected gives the error of the key
pub key_refused : (line : ℕ) (keys : HeaderKeyValues) (word w : List ℕ) (at run : ℕ) (e : HeaderLineEnding)
    (more : HeaderKeyValues)
    (kind : GridKind)
    (a b d : ComingBytes → Option ComingBytes)
    → EqualBeforeAndAfterReads (header_value_after_colon line (after_first is_colon word)) a
    (header_value_from_call_result (Ok at) w) b
    → EqualBeforeAndAfterReads (λ c. header_line_end_or_fault line (end_of_continued_blank_run line 0 c)) b
    (line_end_from_call_result (Ok e) run) d
    → key_values_with_header_key keys (header_key_with_name (before_first is_colon word)) (drop at w) ≡ Err kind
    → EqualBeforeAndAfterReads (header_line_after_first_word line keys word) a
    (key_line_from_call_result (Err (grid_fault_at_line kind line)) more run) d
key_refused line keys word w at run e more kind a b d values ends given =
    let more_is : Result HeaderKeyValues GridKind = key_values_with_header_key keys
    (header_key_with_name (before_first is_colon word))
    (drop at w) in
    chain _ _ _ _ _ _
    (then_map (after_value line keys word) (header_value_after_colon line (after_first is_colon word))
    (header_value_from_call_result (Ok at) w) a b values)
    (chain _ _ _ _ _ _
    (then_map (after_end more_is line) (λ c. header_line_end_or_fault line (end_of_continued_blank_run line 0 c))
    (line_end_from_call_result (Ok e) run) b d ends)
    (map_same (λ c. after_end more_is line (line_end_from_call_result (Ok e) run c))
    (key_line_from_call_result (Err (grid_fault_at_line kind line)) more run) d
    (λ c. ap (λ (v : Result HeaderKeyValues GridKind). after_end v line (line_end_from_call_result (Ok e) run c)) given
    ∙ refused_with kind line run e c)))

-- the rest of a list, cut to its own length, is unchanged
whole_rest : (bs : List ℕ) (i : ℕ) → take (length bs - i) (drop i bs) ≡ drop i bs
whole_rest bs i = take_all (length bs - i) (drop i bs) (omega (arith, length-drop i bs))

-- the key and the value that the code computes are the key and the value of the line
pub key_given : (keys : HeaderKeyValues) (r : Result HeaderKeyValues GridKind) (word first last end : List ℕ)
    (colon at : ℕ)
    (key : Option HeaderKey)
    → colon ≡ position_or_len is_colon word → first ≡ word → key ≡ header_key_with_name (take colon first) → last ≡ end
    → r ≡ key_values_with_header_key keys key (take (length last - at) (drop at last))
    → key_values_with_header_key keys (header_key_with_name (before_first is_colon word)) (drop at end) ≡ r
key_given keys r word first last end colon at key place is_first is_key is_last given =
    let k : key ≡ header_key_with_name (before_first is_colon word) = is_key ∙ (λ i. header_key_with_name (take (place i) (is_first i))) in
    let rest : take (length last - at) (drop at last) ≡ drop at end = whole_rest last at ∙ ap (drop at) is_last in
    sym (given ∙ (λ i. key_values_with_header_key keys (k i) (rest i)))

later : (p : ℕ → Bool) (x : ℕ) (xs : List ℕ) → p x ≡ false → position_or_len p (x ∷ xs) ≡ 1 + position_or_len p xs
later p x xs e = ap (λ (t : Bool). cond (not t) (1 + position_or_len p xs) 0) e

none_later : (p : ℕ → Bool) (x : ℕ) (xs : List ℕ) → p x ≡ true → position_or_len p (x ∷ xs) ≡ 0
none_later p x xs e = ap (λ (t : Bool). cond (not t) (1 + position_or_len p xs) 0) e

-- a word contains a colon if its first colon comes before its end
pub any_within : (p : ℕ → Bool) (xs : List ℕ) → position_or_len p xs < length xs → list_any p xs ≡ true
any_within p [] h = absurd (omega arith)
any_within p (x ∷ xs) h = by (any_within p xs) (p x) refl
  where
    by : (position_or_len p xs < length xs → list_any p xs ≡ true) → (t : Bool) → p x ≡ t → list_any p (x ∷ xs) ≡ true
    by rest true e = rw e refl
    by rest false e = let step = later p x xs e in rw e (rest (omega (arith, h, step)))

pub any_none : (p : ℕ → Bool) (xs : List ℕ) → length xs ≤ position_or_len p xs → list_any p xs ≡ false
any_none p [] h = refl
any_none p (x ∷ xs) h = by (any_none p xs) (p x) refl
  where
    by : (length xs ≤ position_or_len p xs → list_any p xs ≡ false) → (t : Bool) → p x ≡ t → list_any p (x ∷ xs) ≡ false
    by rest true e = let none = none_later p x xs e in absurd (omega (arith, h, none))
    by rest false e = let step = later p x xs e in rw e (rest (omega (arith, h, step)))

abbrev after_first_word : HeaderKeyValues → ℕ → Result (List ℕ × ComingBytes) GridFault
    → Result StateAfterHeaderLine GridFault
after_first_word keys line r = r >>= (λ w. if list_any is_colon w.0 then header_line_after_first_word line keys w.0 w.1 >>= state_after_key_line line else Ok (Stop keys line (Some w.0) w.1))

module _ (keys : HeaderKeyValues) (line run l : ℕ) (word : List ℕ) (a b d : ComingBytes → Option ComingBytes)
    (starts : EqualBeforeAndAfterReads (next_word_start line run) a (word_start_from_call_result (Ok NextWord) l) b)
    (words : EqualBeforeAndAfterReads (word_continued_in_bytes l []) b (word_from_call_result (Ok tt) word) d) where
  first_word : EqualBeforeAndAfterReads (λ c. state_after_header_line keys (next_word_start line run c)) a
      (λ c. after_first_word keys l (Ok (word, c))) d
  first_word =
      chain _ _ _ _ _ _
      (then_map (state_after_header_line keys) (next_word_start line run)
      (word_start_from_call_result (Ok NextWord) l) a b starts)
      (then_map (after_first_word keys l) (word_continued_in_bytes l []) (word_from_call_result (Ok tt) word) b d words)

  -- a line whose first word has no colon begins the data
  pub line_data : list_any is_colon word ≡ false
      → EqualBeforeAndAfterReads (λ c. state_after_header_line keys (next_word_start line run c)) a
      (λ c. Ok (Stop keys l (Some word) c)) d
  line_data none =
      chain _ _ _ _ _ _ first_word (map_same (λ c. after_first_word keys l (Ok (word, c)))
      (λ c. Ok (Stop keys l (Some word) c)) d (λ c. rw none refl))

  key_word : list_any is_colon word ≡ true
      → EqualBeforeAndAfterReads (λ c. state_after_header_line keys (next_word_start line run c)) a
      (λ c. header_line_after_first_word l keys word c >>= state_after_key_line l) d
  key_word some =
      chain _ _ _ _ _ _ first_word (map_same (λ c. after_first_word keys l (Ok (word, c)))
      (λ c. header_line_after_first_word l keys word c >>= state_after_key_line l) d (λ c. rw some refl))

  module _ (some : list_any is_colon word ≡ true) (more : HeaderKeyValues) (run' : ℕ) (e : ComingBytes
      → Option ComingBytes) where
    line_ends : (r : Result HeaderLineEnding GridFault) → EqualBeforeAndAfterReads
        (header_line_after_first_word l keys word) d
        (key_line_from_call_result r more run') e
        → EqualBeforeAndAfterReads (λ c. state_after_header_line keys (next_word_start line run c)) a
        (λ c. key_line_from_call_result r more run' c >>= state_after_key_line l) e
    line_ends r h =
        chain _ _ _ _ _ _ (key_word some)
        (then_map (λ r. r >>= state_after_key_line l) (header_line_after_first_word l keys word)
        (key_line_from_call_result r more run') d e h)

    -- another line follows
    pub line_more : (m : ℕ) → m ≡ l + 1 → EqualBeforeAndAfterReads (header_line_after_first_word l keys word) d
        (key_line_from_call_result (Ok Feed) more run') e
        → EqualBeforeAndAfterReads (λ c. state_after_header_line keys (next_word_start line run c)) a
        (λ c. Ok (More more m run' c)) e
    line_more m next h = rw next (line_ends (Ok Feed) h)

    -- the text ends with this line
    pub line_last : (m : ℕ) → m ≡ l → IsSourceAtEndOrFailed false e
        → EqualBeforeAndAfterReads (header_line_after_first_word l keys word) d
        (key_line_from_call_result (Ok Text) more run') e
        → EqualBeforeAndAfterReads (λ c. state_after_header_line keys (next_word_start line run c)) a
        (λ c. Ok (Stop more m None c)) e
    line_last m same end h =
        rw same (chain _ _ _ _ _ _ (line_ends (Ok Text) h)
        (at_end (λ c. Ok (Stop more l None empty_coming_bytes)) (λ c. Ok (Stop more l None c)) e false end refl))

    pub line_fails : (f : GridFault) → EqualBeforeAndAfterReads (header_line_after_first_word l keys word) d
        (key_line_from_call_result (Err f) more run') e
        → EqualBeforeAndAfterReads (λ c. state_after_header_line keys (next_word_start line run c)) a (λ c. Err f) e
    line_fails f h = line_ends (Err f) h

-- the header after one line, which continues with `rest`
abbrev go_on : (HeaderKeyValues → ℕ → ℕ → ComingBytes → Result HeaderAndDataStart GridFault)
    → Result StateAfterHeaderLine GridFault
    → Result HeaderAndDataStart GridFault
go_on rest (Ok (More keys line run c)) = rest keys line run c
go_on rest (Ok (Stop keys line pending c)) = header_and_data_start keys line pending c
go_on rest (Err f) = Err f

module _ (rest : HeaderKeyValues → ℕ → ℕ → ComingBytes → Result HeaderAndDataStart GridFault) where
  key_on : (line : ℕ) (r : Result (HeaderKeyValues × HeaderLineEnd) GridFault) → (r >>= rest_of_header_after_line rest line) ≡ go_on rest (r >>= state_after_key_line line)
  key_on line (Ok (keys, None)) = refl
  key_on line (Ok (keys, Some (run, c))) = refl
  key_on line (Err f) = refl

  word_on : (keys : HeaderKeyValues) (line : ℕ) (word : List ℕ) (c : ComingBytes) (t : Bool)
      → (if t then header_line_after_first_word line keys word c >>= rest_of_header_after_line rest line else
      header_and_data_start keys line (Some word) c)
      ≡ go_on rest (if t then header_line_after_first_word line keys word c >>= state_after_key_line line else Ok
      (Stop keys line (Some word) c))
  word_on keys line word c true = key_on line (header_line_after_first_word line keys word c)
  word_on keys line word c false = refl

  begun_on : (keys : HeaderKeyValues) (line : ℕ) (r : Result (List ℕ × ComingBytes) GridFault)
      → (r >>= (λ w. if list_any is_colon w.0 then header_line_after_first_word line keys w.0 w.1 >>= rest_of_header_after_line rest line else header_and_data_start keys line (Some w.0) w.1))
      ≡ go_on rest (after_first_word keys line r)
  begun_on keys line (Ok (word, c)) = word_on keys line word c (list_any is_colon word)
  begun_on keys line (Err f) = refl

  line_on : (keys : HeaderKeyValues) (s : NextWordStart) → rest_of_header_from_word rest keys s
      ≡ go_on rest (state_after_header_line keys s)
  line_on keys (Begins line c) = begun_on keys line (word_continued_in_bytes line [] c)
  line_on keys (Ends line) = refl
  line_on keys (Stops f) = refl

header_more : (fuel : ℕ) (keys : HeaderKeyValues) (line run : ℕ) (c : ComingBytes)
    → rest_of_header_from_line (suc fuel) keys line run c ≡ go_on (λ k l r d. rest_of_header_from_line fuel k l r d) (state_after_header_line keys (next_word_start line run c))
unfolding rest_of_header_from_line
header_more fuel keys line run c = line_on (λ k l r d. rest_of_header_from_line fuel k l r d) keys
    (next_word_start line run c)

pub header_none : (keys : HeaderKeyValues) (line run : ℕ) (c : ComingBytes) → rest_of_header_from_line 0 keys line run c ≡ Err (grid_fault_at_line BadHeader line)
unfolding rest_of_header_from_line
header_none keys line run c = refl

less_one : (n i : ℕ) → i < n → n - i ≡ suc (n - (i + 1))
less_one n i h = omega arith

module _ (F : ComingBytes → Result HeaderAndDataStart GridFault) (a b d : ComingBytes
    → Option ComingBytes) (i : ℕ) (keys : HeaderKeyValues)
    (line run : ℕ) (in_range : i < 10)
    (so_far : EqualBeforeAndAfterReads F a (rest_of_header_from_line (10 - i) keys line run) b) where
  one_line : (seen : ComingBytes → Result StateAfterHeaderLine GridFault)
      → EqualBeforeAndAfterReads (λ c. state_after_header_line keys (next_word_start line run c)) b seen d
      → EqualBeforeAndAfterReads F a (λ c. go_on (λ k l r x. rest_of_header_from_line (10 - (i + 1)) k l r x)
      (seen c)) d
  one_line seen h =
      chain _ _ _ _ _ _ so_far
      (chain _ _ _ _ _ _
      (map_same (rest_of_header_from_line (10 - i) keys line run)
      (λ c. go_on (λ k l r x. rest_of_header_from_line (10 - (i + 1)) k l r x)
      (state_after_header_line keys (next_word_start line run c))) b
      (λ c. ap (λ (n : ℕ). rest_of_header_from_line n keys line run c) (less_one 10 i in_range) ∙ header_more
      (10 - (i + 1)) keys line run c))
      (then_map (go_on (λ k l r x. rest_of_header_from_line (10 - (i + 1)) k l r x))
      (λ c. state_after_header_line keys (next_word_start line run c)) seen b d h))

  -- reading a header is reading its first line and then the other lines with the line's keys
  pub header_goes : (more : HeaderKeyValues) (l r : ℕ)
      → EqualBeforeAndAfterReads (λ c. state_after_header_line keys (next_word_start line run c)) b
      (λ c. Ok (More more l r c)) d
      → EqualBeforeAndAfterReads F a (rest_of_header_from_line (10 - (i + 1)) more l r) d
  header_goes more l r h = one_line (λ c. Ok (More more l r c)) h

  pub header_stops : (more : HeaderKeyValues) (l : ℕ) (pending : Option (List ℕ))
      → EqualBeforeAndAfterReads (λ c. state_after_header_line keys (next_word_start line run c)) b
      (λ c. Ok (Stop more l pending c)) d
      → EqualBeforeAndAfterReads F a (header_and_data_start more l pending) d
  header_stops more l pending h = one_line (λ c. Ok (Stop more l pending c)) h

  pub header_fails : (f : GridFault) → EqualBeforeAndAfterReads (λ c. state_after_header_line keys
      (next_word_start line run c)) b
      (λ c. Err f) d
      → EqualBeforeAndAfterReads F a (λ c. Err f) d
  header_fails f h = one_line (λ c. Err f) h
