-- The reading of the data, compared with the places that it passes.
use Rattle.std.proofs.Common.{◌≡◌, ℕ, zero, suc, ◌+◌, ◌*◌, ◌<◌, ◌≤◌, List, [], ◌∷◌, ◌++◌, Option, Some, None, ◌==◌, Bool, true, false, cond, not, length, take, drop, refl, ap, sym, ◌∙◌, arith, append-nil, append_assoc, length-append, Result, Ok, Err, ◌&&◌, ◌||◌, ◌⊎◌, inl, inr, if◌then◌else◌, subst}
use Rattle.std.specs.Prelude.{nat_lt, nat_le}
use Rattle.std.specs.Option.{option_map}
use Rattle.std.specs.List.{filter, list_any, prefix_len}
use Rattle.std.proofs.lemmas.Bool.{cases_Bool}
use Rattle.std.proofs.lemmas.Bool.Decides.{nat_tests}
use Rattle.cell_core.specs.Grid.{CellValue, Grid}
use Rattle.cell_ascii_meaning.specs.GridTokens.{NextWordStart, Begins, Ends, is_space, is_word_byte, grid_fault_at_line}
use Rattle.cell_ascii_meaning.specs.GridTokens.{next_word_start}
use Rattle.cell_ascii_meaning.specs.Header.{DataPosition, GridHeaderContents, header_defined_by_keys, has_colon, ◌>>=◌}
use Rattle.cell_ascii_meaning.specs.CellTexts.{ReadValueAndPositionOrFault, position_without_pending_word, cell_and_position_after_word, cell_of_word_at_line, cell_at_word_start, cell_of_word, next_cell_after_position, items_read_one_after_another, text_end_or_fault}
use Rattle.cell_ascii_meaning.specs.KeyNames.{header_key_with_name}
use Rattle.cell_ascii_meaning.specs.GridText.{is_nonempty_word, is_data_line, is_header_line, header_lines, data_words, key_text_of_header_line, values_of_header_line}
use Rattle.cell_ascii_meaning.specs.FaultPlaces.{ByteOrTextEndOrFailedRead, Byte, End, Fails, ends_token, ends_line, is_end_of_text, is_empty, fault_kind_if, is_in_header_line, key_values_of_header_lines, header_of_lines, long_token_fault, too_many_blanks_fault, second_header_value_fault, header_line_fault, repeats_earlier_key, fault_at_header_line_end, fault_at_header_end, cell_fault_at_token_end, too_few_cells_fault, too_many_cells_fault, failed_read_fault, full_fault_table, header_rows_of_fault_table, place_is_up_to_first_data_token, fault_table_up_to_first_data_token, ◌or◌}
use Rattle.cell_ascii_meaning.specs.declared.grid_fault.GridKind.{GridKind}
use Rattle.cell_ascii_meaning.specs.declared.grid_fault.GridKind.TheVariants.{BadHeader, TooFew, TooMany}
use Rattle.cell_ascii_meaning.specs.declared.grid_fault.GridFault.{GridFault}
use Rattle.cell_ascii_meaning.proofs.TokenLemmas.{coming}
use Rattle.cell_ascii_law.proofs.LexemeLemmas.{Lines}
use Rattle.cell_ascii_law.proofs.DataLawLemmas.{all_words, bind_assoc, whole_grid, read_end, read_grid, read_grid_is}
use Rattle.cell_ascii_law_faults.proofs.SeenLemmas.{with_token, Seen, at_seen, reports, step, scan}
use Rattle.cell_ascii_law_faults.proofs.PlaceWordLemmas.{one_reported, one_silent, step_word, step_blank, step_feed, before_word, IsAfterWord, next_word, going, gone, settled}

-- The header lines and the words of the data, line by line.
abbrev no_data : List (List ℕ) → Bool
no_data l = not (is_data_line l)

one_more : (n : ℕ) → 1 + n ≡ suc n
one_more n = omega arith

module _ (l : List (List ℕ)) (ls : Lines) where
  pub heads_data : is_data_line l ≡ true → header_lines (l ∷ ls) ≡ []
  heads_data e = ap (λ (t : Bool). filter is_header_line (take (cond (not t) (1 + prefix_len no_data ls) 0) (l ∷ ls))) e

  pub heads_more : is_data_line l ≡ false → header_lines (l ∷ ls) ≡ cond (is_header_line l) (l ∷ header_lines ls) (header_lines ls)
  heads_more e = ap (λ (t : Bool). filter is_header_line (take (cond (not t) (1 + prefix_len no_data ls) 0) (l ∷ ls))) e
      ∙ ap (λ (n : ℕ). filter is_header_line (take n (l ∷ ls))) (one_more (prefix_len no_data ls))

  pub words_data : is_data_line l ≡ true → data_words (l ∷ ls) ≡ l ++ all_words ls
  words_data e = ap (λ (t : Bool). all_words (drop (cond (not t) (1 + prefix_len no_data ls) 0) (l ∷ ls))) e

  pub words_more : is_data_line l ≡ false → data_words (l ∷ ls) ≡ data_words ls
  words_more e = ap (λ (t : Bool). all_words (drop (cond (not t) (1 + prefix_len no_data ls) 0) (l ∷ ls))) e
      ∙ ap (λ (n : ℕ). all_words (drop n (l ∷ ls))) (one_more (prefix_len no_data ls))

-- the header lines among lines that are not data
abbrev pub heads : Lines → Lines
heads ls = filter is_header_line ls

abbrev pub has_data : Lines → Bool
has_data ls = list_any is_data_line ls

all_words-append : (ls rest : Lines) → all_words (ls ++ rest) ≡ all_words ls ++ all_words rest
all_words-append [] rest = refl
all_words-append (l ∷ ls) rest = ap (λ ws. l ++ ws) (all_words-append ls rest) ∙ sym (append_assoc l (all_words ls) (all_words rest))

-- lines after some lines without data add their header lines
pub heads_before : (ls rest : Lines) → has_data ls ≡ false → header_lines (ls ++ rest) ≡ heads ls ++ header_lines rest
heads_before [] rest e = refl
heads_before (l ∷ ls) rest e = by (is_data_line l) refl e (heads_before ls rest)
  where
    kept : (t : Bool) → header_lines (ls ++ rest) ≡ heads ls ++ header_lines rest → cond t (l ∷ header_lines (ls ++ rest)) (header_lines (ls ++ rest)) ≡ cond t (l ∷ heads ls) (heads ls) ++ header_lines rest
    kept true on = ap (λ ks. l ∷ ks) on
    kept false on = on

    by : (t : Bool) → is_data_line l ≡ t → (t || has_data ls) ≡ false → (has_data ls ≡ false → header_lines (ls ++ rest) ≡ heads ls ++ header_lines rest) → header_lines ((l ∷ ls) ++ rest) ≡ heads (l ∷ ls) ++ header_lines rest
    by true is e on = cc
    by false is e on = heads_more l (ls ++ rest) is ∙ kept (is_header_line l) (on e)

pub words_before : (ls rest : Lines) → has_data ls ≡ false → data_words (ls ++ rest) ≡ data_words rest
words_before [] rest e = refl
words_before (l ∷ ls) rest e = by (is_data_line l) refl e (words_before ls rest)
  where
    by : (t : Bool) → is_data_line l ≡ t → (t || has_data ls) ≡ false → (has_data ls ≡ false → data_words (ls ++ rest) ≡ data_words rest) → data_words ((l ∷ ls) ++ rest) ≡ data_words rest
    by true is e on = cc
    by false is e on = words_more l (ls ++ rest) is ∙ on e

-- lines after some lines with data add no header lines
heads_after : (ls rest : Lines) → has_data ls ≡ true → header_lines (ls ++ rest) ≡ header_lines ls
heads_after [] rest e = cc
heads_after (l ∷ ls) rest e = by (is_data_line l) refl e (heads_after ls rest)
  where
    by : (t : Bool) → is_data_line l ≡ t → (t || has_data ls) ≡ true → (has_data ls ≡ true → header_lines (ls ++ rest) ≡ header_lines ls) → header_lines ((l ∷ ls) ++ rest) ≡ header_lines (l ∷ ls)
    by true is e on = heads_data l (ls ++ rest) is ∙ sym (heads_data l ls is)
    by false is e on = heads_more l (ls ++ rest) is ∙ ap (λ ks. cond (is_header_line l) (l ∷ ks) ks) (on e) ∙ sym (heads_more l ls is)

words_after : (ls rest : Lines) → has_data ls ≡ true → data_words (ls ++ rest) ≡ data_words ls ++ all_words rest
words_after [] rest e = cc
words_after (l ∷ ls) rest e = by (is_data_line l) refl e (words_after ls rest)
  where
    by : (t : Bool) → is_data_line l ≡ t → (t || has_data ls) ≡ true → (has_data ls ≡ true → data_words (ls ++ rest) ≡ data_words ls ++ all_words rest) → data_words ((l ∷ ls) ++ rest) ≡ data_words (l ∷ ls) ++ all_words rest
    by true is e on = words_data l (ls ++ rest) is ∙ ap (λ ws. l ++ ws) (all_words-append ls rest) ∙ sym (append_assoc l (all_words ls) (all_words rest)) ∙ ap (λ ws. ws ++ all_words rest) (sym (words_data l ls is))
    by false is e on = words_more l (ls ++ rest) is ∙ on e ∙ ap (λ ws. ws ++ all_words rest) (sym (words_more l ls is))

pub has_data-append : (ls : Lines) (l : List (List ℕ)) → has_data (ls ++ l ∷ []) ≡ (has_data ls || is_data_line l)
has_data-append [] l = by (is_data_line l)
  where
    by : (t : Bool) → (t || false) ≡ t
    by true = refl
    by false = refl
has_data-append (k ∷ ls) l = by (is_data_line k) (has_data-append ls l)
  where
    by : (t : Bool) → has_data (ls ++ l ∷ []) ≡ (has_data ls || is_data_line l) → (t || has_data (ls ++ l ∷ [])) ≡ ((t || has_data ls) || is_data_line l)
    by true on = refl
    by false on = on

-- A place in the data, after n complete words of the data.
pub record IsData (h : GridHeaderContents) (n : ℕ) (ls : Lines) (ws : List (List ℕ)) : Type 0 where
  pub header : header_of_lines (ls ++ ws ∷ []) ≡ Ok h
  pub count : length (data_words (ls ++ ws ∷ [])) ≡ n
  pub begun : (has_data ls ≡ true) ⊎ ((has_data ls ≡ false) × (is_data_line ws ≡ true))

not_both : (ws : List (List ℕ)) → is_data_line ws ≡ true → is_header_line ws ≡ false
not_both [] e = refl
not_both (w ∷ ws) e = by (has_colon w) e
  where
    by : (t : Bool) → not t ≡ true → t ≡ false
    by true e = cc
    by false e = refl

module _ (h : GridHeaderContents) (n : ℕ) (ls : Lines) (ws : List (List ℕ)) (is : IsData h n ls ws) where
  begun_now : has_data (ls ++ ws ∷ []) ≡ true
  begun_now = has_data-append ls ws ∙ by is.begun
    where
      by : (has_data ls ≡ true) ⊎ ((has_data ls ≡ false) × (is_data_line ws ≡ true)) → (has_data ls || is_data_line ws) ≡ true
      by (inl e) = rw e refl
      by (inr e) = rw (e.0, e.1)

  outside : is_in_header_line ls ws ≡ false
  outside = by is.begun
    where
      by : (has_data ls ≡ true) ⊎ ((has_data ls ≡ false) × (is_data_line ws ≡ true)) → is_in_header_line ls ws ≡ false
      by (inl e) = ap (λ (t : Bool). not t && is_header_line ws) e
      by (inr e) = (λ i. not (e.0 i) && not_both ws e.1 i)

  fed : IsData h n (ls ++ ws ∷ []) []
  fed = record {
    header = ap (λ (hs : Lines). header_defined_by_keys (key_values_of_header_lines hs)) (heads_after (ls ++ ws
        ∷ []) ([] ∷ []) begun_now) ∙ is.header;
    count = ap length (words_after (ls ++ ws ∷ []) ([] ∷ []) begun_now ∙ append-nil (data_words (ls ++ ws ∷ []))) ∙ is.count;
    begun = inl begun_now;
  }

  one_word : (w : List ℕ) → IsData h (n + 1) ls (ws ++ w ∷ [])
  one_word w = by is.begun
    where
      still : (vs : List (List ℕ)) → is_data_line vs ≡ true → is_data_line (vs ++ w ∷ []) ≡ true
      still [] e = cc
      still (v ∷ vs) e = e

      longer : length (ws ++ w ∷ []) ≡ length ws + 1
      longer = length-append ws (w ∷ [])

      by : (has_data ls ≡ true) ⊎ ((has_data ls ≡ false) × (is_data_line ws ≡ true)) → IsData h (n + 1) ls (ws ++ w ∷ [])
      by (inl e) = record {
        header = ap (λ (hs : Lines). header_defined_by_keys (key_values_of_header_lines hs)) (heads_after ls ((ws ++ w ∷ []) ∷ []) e ∙ sym (heads_after ls (ws ∷ []) e)) ∙ is.header;
        count =
            let a = ap length (words_after ls ((ws ++ w ∷ []) ∷ []) e) in
            let b = ap length (words_after ls (ws ∷ []) e) in
            let c = is.count in
            omega (arith, length-append (data_words ls) ((ws ++ w ∷ []) ++ []), length-append (data_words ls) (ws ++ []), length-append (ws ++ w ∷ []) [], length-append ws [], longer);
        begun = inl e;
      }
      by (inr e) =
          let later = still ws e.1 in
          record {
            header = ap (λ (hs : Lines). header_defined_by_keys (key_values_of_header_lines hs)) (heads_before ls ((ws ++ w ∷ []) ∷ []) e.0 ∙ ap (λ (hs : Lines). heads ls ++ hs) (heads_data (ws ++ w ∷ []) [] later ∙ sym (heads_data ws [] e.1)) ∙ sym (heads_before ls (ws ∷ []) e.0)) ∙ is.header;
            count =
                let a = ap length (words_before ls ((ws ++ w ∷ []) ∷ []) e.0 ∙ words_data (ws ++ w ∷ []) [] later) in
                let b = ap length (words_before ls (ws ∷ []) e.0 ∙ words_data ws [] e.1) in
                let c = is.count in
                omega (arith, length-append (ws ++ w ∷ []) [], length-append ws [], longer);
            begun = inr (e.0, later);
          }

-- The reports of the table at places in the data.
pub and_never : (t : Bool) → (t && false) ≡ false
and_never true = refl
and_never false = refl

no_matter : (t : Bool) → ◌≡◌ {A = Option GridKind} (if t then None else None) None
no_matter true = refl
no_matter false = refl

abbrev data_reported : ℕ → List ℕ → GridHeaderContents → List (List ℕ) → ByteOrTextEndOrFailedRead → Option GridKind
data_reported gap token h words place =
    long_token_fault token place
    or too_many_blanks_fault gap place
    or cell_fault_at_token_end (Ok h) words token place
    or too_few_cells_fault (Ok h) words place
    or too_many_cells_fault (Ok h) words token place
    or failed_read_fault place

module _ (h : GridHeaderContents) (gap : ℕ) (token : List ℕ) (inside : Bool) (ls : Lines) (line : List (List ℕ)) (header : Result GridHeaderContents GridKind) (words : List (List ℕ)) (out : inside ≡ false) (is : header ≡ Ok h) where
  no_second : (place : ByteOrTextEndOrFailedRead) → second_header_value_fault inside line token place ≡ None
  no_second (Byte b) = (λ i. fault_kind_if (((is_word_byte b && is_empty token) && out i) && not (is_empty (values_of_header_line line))) BadHeader)
      ∙ (λ i. fault_kind_if (and_never (is_word_byte b && is_empty token) i
      && not (is_empty (values_of_header_line line))) BadHeader)
  no_second End = refl
  no_second Fails = refl

  no_line : (place : ByteOrTextEndOrFailedRead) → fault_at_header_line_end inside ls line place ≡ None
  no_line place = (λ i. if ends_line place && out i then header_line_fault (repeats_earlier_key line (header_lines ls)) (header_key_with_name (key_text_of_header_line line)) (values_of_header_line line) else None)
      ∙ (λ i. if and_never (ends_line place) i then header_line_fault (repeats_earlier_key line (header_lines ls)) (header_key_with_name (key_text_of_header_line line)) (values_of_header_line line) else None)

  no_header : (place : ByteOrTextEndOrFailedRead) → fault_at_header_end header words token place ≡ None
  no_header place = (λ i. fault_at_header_end (is i) words token place) ∙ no_matter ((is_end_of_text place && is_empty words) || ((ends_token place && is_nonempty_word token) && length words == 1))

  reported_in_data : (place : ByteOrTextEndOrFailedRead) → full_fault_table gap token inside ls line header words place ≡ data_reported gap token h words place
  reported_in_data place = λ i.
      long_token_fault token place
      or too_many_blanks_fault gap place
      or no_second place i
      or no_line place i
      or no_header place i
      or cell_fault_at_token_end (is i) words token place
      or too_few_cells_fault (is i) words place
      or too_many_cells_fault (is i) words token place
      or failed_read_fault place

module _ (h : GridHeaderContents) (gap : ℕ) (words : List (List ℕ)) where
  word_silent : (b : ℕ) → is_space b ≡ false → length words < h.region.rows * h.region.cols → data_reported gap [] h words (Byte b) ≡ None
  word_silent b word fewer = let t : nat_le (h.region.rows * h.region.cols) (length words) ≡ false = grind (arith, nat_tests) in rw (word, t)

  word_many : (b : ℕ) → is_space b ≡ false → length words ≡ h.region.rows * h.region.cols → data_reported gap [] h words (Byte b) ≡ Some TooMany
  word_many b word all = let t : nat_le (h.region.rows * h.region.cols) (length words) ≡ true = grind (arith, nat_tests) in rw (word, t)

  end_few : length words < h.region.rows * h.region.cols → data_reported gap [] h words End ≡ Some TooFew
  end_few fewer = let t : nat_lt (length words) (h.region.rows * h.region.cols) ≡ true = grind (arith, nat_tests) in rw t

  end_all : length words ≡ h.region.rows * h.region.cols → data_reported gap [] h words End ≡ None
  end_all all = let t : nat_lt (length words) (h.region.rows * h.region.cols) ≡ false = grind (arith, nat_tests) in rw t

module _ (h : GridHeaderContents) (x : ℕ) (xs : List ℕ) where
  no_cell : (words : List (List ℕ)) (kind : GridKind) → 0 < length words → cell_of_word h (x ∷ xs) ≡ Err kind → (place : ByteOrTextEndOrFailedRead) → ends_token place ≡ true → data_reported 0 (x ∷ xs) h words place ≡ Some kind
  no_cell [] kind some e place ends = absurd (omega arith)
  no_cell (w ∷ ws) kind some e (Byte b) space = rw (space, e)
  no_cell (w ∷ ws) kind some e End ends = rw e
  no_cell (w ∷ ws) kind some e Fails ends = cc

  a_cell : (words : List (List ℕ)) (v : CellValue) → 0 < length words → cell_of_word h (x ∷ xs) ≡ Ok v → (place : ByteOrTextEndOrFailedRead) → ends_token place ≡ true → data_reported 0 (x ∷ xs) h words place ≡ data_reported 0 [] h words place
  a_cell [] v some e place ends = absurd (omega arith)
  a_cell (w ∷ ws) v some e (Byte b) space = rw (space, e)
  a_cell (w ∷ ws) v some e End ends = rw e
  a_cell (w ∷ ws) v some e Fails ends = cc

-- The error of a reading.
abbrev pub fault_in : {X : Type 0} → Result X GridFault → Option GridFault
fault_in (Ok x) = None
fault_in (Err e) = Some e

once : (cols : ℕ) → cols * 1 ≡ cols
once cols = omega arith

whole_is : (rows cols : ℕ) → rows * cols ≡ 0 + rows * (cols * 1)
whole_is rows cols = rw (once cols) (omega arith)

whole_fits : (rows cols : ℕ) → 0 + rows * (cols * 1) ≤ rows * cols
whole_fits rows cols = rw (once cols) (omega arith)

row_fits : (rows cols : ℕ) → 0 < rows → 0 + cols * 1 ≤ rows * cols
row_fits zero cols some = absurd (omega arith)
row_fits (suc rows) cols some = let e : suc rows * cols ≡ cols + rows * cols = omega arith in rw (once cols) (omega arith)

module _ (h : GridHeaderContents) where
  abbrev cells : ℕ
  cells = h.region.rows * h.region.cols

  -- the report of the table between two words of the data
  reported_there : (n : ℕ) (ls : Lines) (ws : List (List ℕ)) → IsData h n ls ws
      → (line gap : ℕ) (place : ByteOrTextEndOrFailedRead)
      → reports full_fault_table (at_seen line gap ls ws []) place ≡ option_map (λ kind. grid_fault_at_line kind line) (data_reported gap [] h (data_words (ls ++ ws ∷ [])) place)
  reported_there n ls ws is line gap place = ap (option_map (λ kind. grid_fault_at_line kind line)) (reported_in_data h gap [] (is_in_header_line ls ws) ls ws (header_of_lines (ls ++ ws ∷ [])) (data_words (ls ++ ws ∷ [])) (outside h n ls ws is) is.header place)

  -- the report of the table within a word of the data
  reported_within : (n : ℕ) (ls : Lines) (ws : List (List ℕ)) (x : ℕ) (xs : List ℕ) → IsData h n ls (ws ++ (x ∷ xs) ∷ []) → (line : ℕ) (place : ByteOrTextEndOrFailedRead)
      → reports full_fault_table (at_seen line 0 ls ws (x ∷ xs)) place ≡ option_map (λ kind. grid_fault_at_line kind line) (data_reported 0 (x ∷ xs) h (data_words (ls ++ (ws ++ (x ∷ xs) ∷ []) ∷ [])) place)
  reported_within n ls ws x xs is line place =
      let now : List (List ℕ) = ws ++ (x ∷ xs) ∷ [] in
      ap (option_map (λ kind. grid_fault_at_line kind line)) (reported_in_data h 0 (x ∷ xs) (is_in_header_line ls now) ls now (header_of_lines (ls ++ now ∷ [])) (data_words (ls ++ now ∷ [])) (outside h n ls now is) is.header place)

  -- from any place after n words of the data, F gives the error that the places report
  abbrev Goes : {X : Type 0} → ℕ → (X → DataPosition → Result Grid GridFault) → Type 0
  Goes {X} n F = (x : X) (line gap : ℕ) (bs : List ℕ) (f : Bool) (ls : Lines) (ws : List (List ℕ)) → gap ≤ 1048576 → IsData h n ls ws → fault_in (F x (position_without_pending_word line gap (coming bs f))) ≡ scan full_fault_table (at_seen line gap ls ws []) bs f

  -- at one place, reading the next `a` words gives the error s, which the places report from there on
  abbrev Follows : {X : Type 0} → DataPosition → Option GridFault → ℕ → (DataPosition → ReadValueAndPositionOrFault X)
      → ℕ → Type 0
  Follows {X} at s n one a = (F : X → DataPosition → Result Grid GridFault) → Goes (n + a) F → fault_in (one at >>= (λ x. F x.0 x.1)) ≡ s

  -- the reading takes the next `a` words while n + a cells are still to come
  abbrev Advances : {X : Type 0} → (DataPosition → ReadValueAndPositionOrFault X) → ℕ → Type 0
  Advances one a = (n : ℕ) → n + a ≤ cells → (line gap : ℕ) (bs : List ℕ) (f : Bool) (ls : Lines) (ws : List (List ℕ)) → gap ≤ 1048576 → IsData h n ls ws
      → Follows (position_without_pending_word line gap (coming bs f))
      (scan full_fault_table (at_seen line gap ls ws []) bs f) n one a

  abbrev with_one : {X : Type 0} → X → ReadValueAndPositionOrFault (List X) → ReadValueAndPositionOrFault (List X)
  with_one x r = r >>= (λ y. Ok (x ∷ y.0, y.1))

  module _ {X : Type 0} (one : DataPosition → ReadValueAndPositionOrFault X) (a : ℕ) (advances : Advances one a) where
    many_first : (m : ℕ) → Advances (items_read_one_after_another one m) (m * a) → (n : ℕ) → n + suc m * a ≤ cells → (at : DataPosition) (s : Option GridFault) → Follows at s n one a → Follows at s n (items_read_one_after_another one (suc m)) (suc m * a)
    many_first m rest n room at s first F goes =
        ap fault_in (bind_assoc (one at) (λ x. with_one x.0 (items_read_one_after_another one m x.1)) (λ x. F x.0 x.1)
        ∙ same (one at))
        ∙ first (λ x b. items_read_one_after_another one m b >>= (λ y. F (x ∷ y.0) y.1)) (λ x line gap bs f ls ws low is. rest (n + a) fits line gap bs f ls ws low is (λ y. F (x ∷ y)) (subst (λ (j : ℕ). Goes j (λ y. F (x ∷ y))) (sym sum_is) (λ y. goes (x ∷ y))))
      where
        sum_is : n + a + m * a ≡ n + suc m * a
        sum_is = omega arith

        fits : n + a + m * a ≤ cells
        fits = rw sum_is room

        then_one : (x : X) (r : ReadValueAndPositionOrFault (List X)) → (with_one x r >>= (λ y. F y.0 y.1))
            ≡ (r >>= (λ y. F (x ∷ y.0) y.1))
        then_one x (Ok y) = refl
        then_one x (Err e) = refl

        same : (r : ReadValueAndPositionOrFault X) → (r >>= (λ x. with_one x.0 (items_read_one_after_another one m x.1) >>= (λ y. F y.0 y.1))) ≡ (r >>= (λ x. items_read_one_after_another one m x.1 >>= (λ y. F (x.0 ∷ y.0) y.1)))
        same (Ok x) = then_one x.0 (items_read_one_after_another one m x.1)
        same (Err e) = refl

    many_advance : (m : ℕ) → Advances (items_read_one_after_another one m) (m * a)
    many_advance zero n room line gap bs f ls ws low is = λ F goes. goes [] line gap bs f ls ws low (subst (λ (j : ℕ). IsData h j ls ws) (none n) is)
      where
        none : (n : ℕ) → n ≡ n + 0 * a
        none n = omega arith
    many_advance (suc m) n room line gap bs f ls ws low is = many_first m (many_advance m) n room (position_without_pending_word line gap (coming bs f)) (scan full_fault_table (at_seen line gap ls ws []) bs f) (advances n (omega arith) line gap bs f ls ws low is)

    -- the reading of many items advances if the reading of the first item does
    many_follow : (m n : ℕ) → 0 < m → n + m * a ≤ cells → (at : DataPosition) (s : Option GridFault) → Follows at s n one a → Follows at s n (items_read_one_after_another one m) (m * a)
    many_follow zero n some room at s first = absurd (omega arith)
    many_follow (suc m) n some room at s first = many_first m (many_advance m) n room at s first

  -- the reading of the next cell agrees with the places from the end of its word on
  cell_after : (F : CellValue → DataPosition → Result Grid GridFault) (n : ℕ) → Goes (n + 1) F → (line : ℕ) (ls : Lines) (ws : List (List ℕ)) (x : ℕ) (xs bs : List ℕ) (f : Bool) → IsAfterWord bs f → IsData h (n + 1) ls (ws ++ (x ∷ xs) ∷ [])
      → fault_in (cell_and_position_after_word line (coming bs f) (cell_of_word h (x ∷ xs)) >>= (λ y. F y.0 y.1)) ≡ scan full_fault_table (at_seen line 0 ls ws (x ∷ xs)) bs f
  cell_after F n goes line ls ws x xs bs f after is = by (cell_of_word h (x ∷ xs)) refl
    where
      words : List (List ℕ)
      words = data_words (ls ++ (ws ++ (x ∷ xs) ∷ []) ∷ [])

      some : 0 < length words
      some = let c = is.count in omega arith

      good : (v : CellValue) → cell_of_word h (x ∷ xs) ≡ Ok v → (place : ByteOrTextEndOrFailedRead) → ends_token place ≡ true → reports full_fault_table (going true line ls ws x xs) place ≡ reports full_fault_table (gone true line ls ws x xs) place
      good v e place ends = reported_within (n + 1) ls ws x xs is line place ∙ ap (option_map (λ kind. grid_fault_at_line kind line)) (a_cell h x xs words v some e place ends) ∙ sym (reported_there (n + 1) ls (ws ++ (x ∷ xs) ∷ []) is line 0 place)

      bad : (kind : GridKind) → cell_of_word h (x ∷ xs) ≡ Err kind → (place : ByteOrTextEndOrFailedRead) → ends_token place ≡ true → reports full_fault_table (going true line ls ws x xs) place ≡ Some (grid_fault_at_line kind line)
      bad kind e place ends = reported_within (n + 1) ls ws x xs is line place ∙ ap (option_map (λ kind. grid_fault_at_line kind line)) (no_cell h x xs words kind some e place ends)

      reported : (kind : GridKind) → cell_of_word h (x ∷ xs) ≡ Err kind → (cs : List ℕ) (g : Bool) → IsAfterWord cs g → scan full_fault_table (going true line ls ws x xs) cs g ≡ Some (grid_fault_at_line kind line)
      reported kind e [] true after = cc
      reported kind e [] false after = bad kind e End refl
      reported kind e (b ∷ cs) g space = one_reported true (going true line ls ws x xs) b cs g (grid_fault_at_line kind line) (bad kind e (Byte b) space)

      by : (r : Result CellValue GridKind) → cell_of_word h (x ∷ xs) ≡ r → fault_in (cell_and_position_after_word line (coming bs f) r >>= (λ y. F y.0 y.1)) ≡ scan full_fault_table (at_seen line 0 ls ws (x ∷ xs)) bs f
      by (Ok v) e = goes v line 0 bs f ls (ws ++ (x ∷ xs) ∷ []) (omega arith) is ∙ sym (settled true line ls ws x xs (good v e) bs f after)
      by (Err kind) e = sym (reported kind e bs f after)

  cell_advances : Advances (next_cell_after_position h) 1
  unfolding next_cell_after_position
  cell_advances n room line gap bs f ls ws low is = λ F goes. by F goes
    where
      by : (F : CellValue → DataPosition → Result Grid GridFault) → Goes (n + 1) F → fault_in (cell_at_word_start h (next_word_start line gap (coming bs f)) >>= (λ y. F y.0 y.1)) ≡ scan full_fault_table (at_seen line gap ls ws []) bs f
      by F goes = before_word true (IsData h n) (fed h n) (outside h n) (λ ms vs at. refl) k (λ e. refl) begins ends bs f line gap ls ws is low
        where
          k : NextWordStart → Option GridFault
          k s = fault_in (cell_at_word_start h s >>= (λ y. F y.0 y.1))

          ends : (ms : Lines) (vs : List (List ℕ)) → IsData h n ms vs → (l g : ℕ) → k (Ends l) ≡ scan full_fault_table (at_seen l g ms vs []) [] false
          ends ms vs here l g = sym (reported_there n ms vs here l g End ∙ ap (option_map (λ kind. grid_fault_at_line kind l)) (end_few h g (data_words (ms ++ vs ∷ [])) (let c = here.count in omega arith)))

          begins : (ms : Lines) (vs : List (List ℕ)) → IsData h n ms vs → (l g b : ℕ) (cs : List ℕ) (e : Bool) → is_space b ≡ false → k (Begins l (coming (b ∷ cs) e)) ≡ scan full_fault_table (at_seen l g ms vs []) (b ∷ cs) e
          begins ms vs here l g b cs e word = next_word true l ms vs (λ r. fault_in (cell_of_word_at_line h l r >>= (λ y. F y.0 y.1))) (λ e. refl) (λ x xs. refl)
              (λ x xs ds t after. cell_after F n goes l ms vs x xs ds t after (one_word h n ms vs here (x ∷ xs))) g b cs e word
              (reported_there n ms vs here l g (Byte b) ∙ ap (option_map (λ kind. grid_fault_at_line kind l)) (word_silent h g (data_words (ms ++ vs ∷ [])) b word (let c = here.count in omega arith)))

  -- the reading of the end of the data agrees with the places there
  end_goes : Goes cells (read_end h)
  end_goes rows line gap bs f ls ws low is = before_word true (IsData h cells) (fed h cells) (outside h cells) (λ ms vs at. refl) k (λ e. refl) begins ends bs f line gap ls ws is low
    where
      k : NextWordStart → Option GridFault
      k s = fault_in (text_end_or_fault s >>= (λ _. Ok (whole_grid h rows)))

      ends : (ms : Lines) (vs : List (List ℕ)) → IsData h cells ms vs → (l g : ℕ) → k (Ends l) ≡ scan full_fault_table (at_seen l g ms vs []) [] false
      ends ms vs here l g = sym (reported_there cells ms vs here l g End ∙ ap (option_map (λ kind. grid_fault_at_line kind l)) (end_all h g (data_words (ms ++ vs ∷ [])) here.count))

      begins : (ms : Lines) (vs : List (List ℕ)) → IsData h cells ms vs → (l g b : ℕ) (cs : List ℕ) (e : Bool) → is_space b ≡ false → k (Begins l (coming (b ∷ cs) e)) ≡ scan full_fault_table (at_seen l g ms vs []) (b ∷ cs) e
      begins ms vs here l g b cs e word = sym (one_reported true (at_seen l g ms vs []) b cs e (grid_fault_at_line TooMany l) (reported_there cells ms vs here l g (Byte b) ∙ ap (option_map (λ kind. grid_fault_at_line kind l)) (word_many h g (data_words (ms ++ vs ∷ [])) b word here.count)))

  -- the reading of the data agrees with the places from the end of its first word on
  pub data_first : 0 < h.region.rows → 0 < h.region.cols → (line : ℕ) (ls : Lines) (x : ℕ) (xs bs : List ℕ) (f : Bool) → IsAfterWord bs f → IsData h 1 ls ((x ∷ xs) ∷ [])
      → fault_in (read_grid h (record { pending = Some (x ∷ xs); line = line; run = 0; coming = coming bs f })) ≡ scan full_fault_table (at_seen line 0 ls [] (x ∷ xs)) bs f
  unfolding next_cell_after_position
  data_first rows cols line ls x xs bs f after is = ap fault_in (read_grid_is h at)
      ∙ many_follow (items_read_one_after_another (next_cell_after_position h) h.region.cols) (h.region.cols * 1) (many_advance (next_cell_after_position h) 1 cell_advances h.region.cols) h.region.rows 0 rows (whole_fits h.region.rows h.region.cols) at (scan full_fault_table (at_seen line 0 ls [] (x ∷ xs)) bs f)
      (many_follow (next_cell_after_position h) 1 cell_advances h.region.cols 0 cols (row_fits h.region.rows h.region.cols rows) at (scan full_fault_table (at_seen line 0 ls [] (x ∷ xs)) bs f) (λ F goes. cell_after F 0 goes line ls [] x xs bs f after is))
      (read_end h) (subst (λ (j : ℕ). Goes j (read_end h)) (whole_is h.region.rows h.region.cols) end_goes)
    where
      at : DataPosition
      at = record { pending = Some (x ∷ xs); line = line; run = 0; coming = coming bs f }

-- After the first token of the data, the opening of a text reports nothing.
module _ (gap : ℕ) (inside : Bool) (ls : Lines) (line : List (List ℕ)) (header : Result GridHeaderContents GridKind) (words : List (List ℕ)) where
  behind_silent : (token : List ℕ) → place_is_up_to_first_data_token words token ≡ false → (place : ByteOrTextEndOrFailedRead) → fault_table_up_to_first_data_token gap token inside ls line header words place ≡ None
  behind_silent token e place = ap (λ (t : Bool). if t then header_rows_of_fault_table gap token inside ls line header words place else None) e

  -- the opening reports nothing at the end of the first token if the header is valid
  opened_silent : (h : GridHeaderContents) (x : ℕ) (xs : List ℕ) → gap ≡ 0 → inside ≡ false → header ≡ Ok h → (place : ByteOrTextEndOrFailedRead) → ends_token place ≡ true → fault_table_up_to_first_data_token gap (x ∷ xs) inside ls line header words place ≡ None
  opened_silent h x xs start out is place ends = ap (λ (o : Option GridKind). if place_is_up_to_first_data_token words (x ∷ xs) then o else None) (rows place ends) ∙ no_matter (place_is_up_to_first_data_token words (x ∷ xs))
    where
      rows : (place : ByteOrTextEndOrFailedRead) → ends_token place ≡ true → header_rows_of_fault_table gap (x ∷ xs) inside ls line header words place ≡ None
      rows (Byte b) space = (λ i. long_token_fault (x ∷ xs) (Byte b) or too_many_blanks_fault (start i) (Byte b) or no_second h gap (x ∷ xs) inside ls line header words out is (Byte b) i or no_line h gap (x ∷ xs) inside ls line header words out is (Byte b) i or no_header h gap (x ∷ xs) inside ls line header words out is (Byte b) i or None) ∙ rw space
      rows End ends = (λ i. no_line h gap (x ∷ xs) inside ls line header words out is End i or no_header h gap (x ∷ xs) inside ls line header words out is End i or None)
      rows Fails ends = cc

module _ (h : GridHeaderContents) where
  not_opening : (n : ℕ) (ls : Lines) (ws : List (List ℕ)) (t : List ℕ) → IsData h n ls ws → 0 < n → place_is_up_to_first_data_token (data_words (ls ++ with_token ws t ∷ [])) t ≡ false
  not_opening n ls ws [] is some = by (data_words (ls ++ ws ∷ [])) is.count
    where
      by : (words : List (List ℕ)) → length words ≡ n → place_is_up_to_first_data_token words [] ≡ false
      by [] e = absurd (omega arith)
      by (w ∷ words) e = refl
  not_opening n ls ws (x ∷ xs) is some = by (data_words (ls ++ (ws ++ (x ∷ xs) ∷ []) ∷ [])) (one_word h n ls ws is (x ∷ xs)).count
    where
      by : (words : List (List ℕ)) → length words ≡ n + 1 → place_is_up_to_first_data_token words (x ∷ xs) ≡ false
      by [] e = absurd (omega arith)
      by (v ∷ []) e = absurd (omega arith)
      by (v ∷ w ∷ words) e = let t : (length (v ∷ w ∷ words) == 1) ≡ false = grind (arith, nat_tests) in t

  module _ (n line gap : ℕ) (ls : Lines) (ws : List (List ℕ)) (t : List ℕ) (is : IsData h n ls ws) (some : 0 < n) where
    nothing : (place : ByteOrTextEndOrFailedRead) → reports fault_table_up_to_first_data_token
        (at_seen line gap ls ws t) place ≡ None
    nothing place = ap (option_map (λ kind. grid_fault_at_line kind line)) (behind_silent gap (is_in_header_line ls (with_token ws t)) ls (with_token ws t) (header_of_lines (ls ++ with_token ws t ∷ [])) (data_words (ls ++ with_token ws t ∷ [])) t (not_opening n ls ws t is some) place)

    counted : (m : ℕ) × (0 < m) × IsData h m ls (with_token ws t)
    counted = by t
      where
        by : (u : List ℕ) → (m : ℕ) × (0 < m) × IsData h m ls (with_token ws u)
        by [] = (n, some, is)
        by (x ∷ xs) = (n + 1, omega arith, one_word h n ls ws is (x ∷ xs))

  none_reported : (bs : List ℕ) (f : Bool) (n line gap : ℕ) (ls : Lines) (ws : List (List ℕ)) (t : List ℕ) → IsData h n ls ws → 0 < n → scan fault_table_up_to_first_data_token (at_seen line gap ls ws t) bs f ≡ None
  none_reported [] false n line gap ls ws t is some = nothing n line gap ls ws t is some End
  none_reported [] true n line gap ls ws t is some = nothing n line gap ls ws t is some Fails
  none_reported (b ∷ bs) f n line gap ls ws t is some = by (none_reported bs f) (cases_Bool (is_space b)) (cases_Bool (b == 10))
    where
      s : Seen
      s = at_seen line gap ls ws t

      m : (m : ℕ) × (0 < m) × IsData h m ls (with_token ws t)
      m = counted n line gap ls ws t is some

      next : (r : Seen) → step s b ≡ r → scan fault_table_up_to_first_data_token r bs f ≡ None
          → scan fault_table_up_to_first_data_token s (b ∷ bs) f ≡ None
      next r e on = one_silent false s r b bs f (nothing n line gap ls ws t is some (Byte b)) e ∙ on

      by : ((n line gap : ℕ) (ls : Lines) (ws : List (List ℕ)) (t : List ℕ) → IsData h n ls ws → 0 < n → scan fault_table_up_to_first_data_token (at_seen line gap ls ws t) bs f ≡ None)
          → (is_space b ≡ true) ⊎ (is_space b ≡ false) → ((b == 10) ≡ true) ⊎ ((b == 10) ≡ false) → scan fault_table_up_to_first_data_token s (b ∷ bs) f ≡ None
      by on (inr word) _ = next (at_seen line 0 ls ws (t ++ b ∷ [])) (step_word s b word) (on n line 0 ls ws (t ++ b ∷ []) is some)
      by on (inl space) (inl feed) = next (at_seen (line + 1) (gap + 1) (ls ++ with_token ws t ∷ []) [] []) (step_feed s b feed) (on m.0 (line + 1) (gap + 1) (ls ++ with_token ws t ∷ []) [] [] (fed h m.0 ls (with_token ws t) m.2) m.1)
      by on (inl space) (inr blank) = next (at_seen line (gap + 1) ls (with_token ws t) []) (step_blank s b space blank) (on m.0 line (gap + 1) ls (with_token ws t) [] m.2 m.1)

  -- the opening of a text reports nothing from the end of the first word of its data on
  pub opening_first : (line : ℕ) (ls : Lines) (x : ℕ) (xs bs : List ℕ) (f : Bool) → IsAfterWord bs f → IsData h 1 ls ((x ∷ xs) ∷ []) → scan fault_table_up_to_first_data_token (at_seen line 0 ls [] (x ∷ xs)) bs f ≡ None
  opening_first line ls x xs bs f after is = by bs f after
    where
      s : Seen
      s = at_seen line 0 ls [] (x ∷ xs)

      quiet : (place : ByteOrTextEndOrFailedRead) → ends_token place ≡ true
          → reports fault_table_up_to_first_data_token s place ≡ None
      quiet place ends = ap (option_map (λ kind. grid_fault_at_line kind line)) (opened_silent 0 (is_in_header_line ls ((x ∷ xs) ∷ [])) ls ((x ∷ xs) ∷ []) (header_of_lines (ls ++ ((x ∷ xs) ∷ []) ∷ [])) (data_words (ls ++ ((x ∷ xs) ∷ []) ∷ [])) h x xs refl (outside h 1 ls ((x ∷ xs) ∷ []) is) is.header place ends)

      by : (bs : List ℕ) (f : Bool) → IsAfterWord bs f → scan fault_table_up_to_first_data_token s bs f ≡ None
      by [] true after = cc
      by [] false after = quiet End refl
      by (b ∷ bs) f space = spaced (cases_Bool (b == 10))
        where
          spaced : ((b == 10) ≡ true) ⊎ ((b == 10) ≡ false) → scan fault_table_up_to_first_data_token s (b ∷ bs) f
              ≡ None
          spaced (inl feed) = one_silent false s (at_seen (line + 1) 1 (ls ++ ((x ∷ xs) ∷ []) ∷ []) [] []) b bs f (quiet (Byte b) space) (step_feed s b feed) ∙ none_reported bs f 1 (line + 1) 1 (ls ++ ((x ∷ xs) ∷ []) ∷ []) [] [] (fed h 1 ls ((x ∷ xs) ∷ []) is) (omega arith)
          spaced (inr blank) = one_silent false s (at_seen line 1 ls ((x ∷ xs) ∷ []) []) b bs f (quiet (Byte b) space) (step_blank s b space blank) ∙ none_reported bs f 1 line 1 ls ((x ∷ xs) ∷ []) [] is (omega arith)
