-- The reading of a text, header and data, compared with the places that it passes.
use Rattle.std.proofs.Common.{◌≡◌, ℕ, zero, suc, ◌+◌, ◌*◌, ◌<◌, ◌≤◌, List, [], ◌∷◌, ◌++◌, Option, Some, None, ◌==◌, Bool, true, false, cond, not, length, refl, ap, sym, ◌∙◌, arith, append-nil, Result, Ok, Err, ◌&&◌, ◌||◌, ◌⊎◌, inl, inr, if◌then◌else◌}
use Rattle.std.specs.Prelude.{nat_lt, nat_le}
use Rattle.std.specs.Option.{option_map}
use Rattle.std.specs.List.{filter, before_first, after_first}
use Rattle.std.proofs.lemmas.Bool.{cases_Bool}
use Rattle.std.proofs.lemmas.Bool.Decides.{nat_tests}
use Rattle.cell_core_devices.specs.Device.{ComingBytes}
use Rattle.cell_ascii_meaning.specs.GridTokens.{Begins, is_space, grid_fault_at_line, next_word_start}
use Rattle.cell_ascii_meaning.specs.GridTokens.{word_continued_in_bytes}
use Rattle.cell_ascii_meaning.specs.KeyNames.{header_key_with_name}
use Rattle.cell_ascii_meaning.specs.Header.{DataPosition, GridHeaderContents, HeaderAndDataStart, HeaderKeyValues, empty_header_key_values, key_values_with_header_key, header_defined_by_keys, is_colon, has_colon, BlankRunEnd, Word, Feed, Last, Fault, end_of_continued_blank_run, header_value_after_colon, HeaderLineEnd, header_line_end_or_fault, result_with_line_in_fault, header_line_after_first_word, empty_coming_bytes, header_and_data_start, rest_of_header_after_line, rest_of_header_from_word, rest_of_header_from_line, ◌>>=◌}
use Rattle.cell_ascii_meaning.specs.CellTexts.{ReadValueAndPositionOrFault, position_without_pending_word}
use Rattle.cell_ascii_meaning.specs.CellTexts.{cell_at_word_start}
use Rattle.cell_ascii_meaning.specs.CellTexts.{next_cell_after_position, items_read_one_after_another}
use Rattle.cell_ascii_meaning.specs.GridText.{is_nonempty_word, is_data_line, is_header_line, header_lines, data_words, key_text_of_header_line, values_of_header_line}
use Rattle.cell_ascii_meaning.specs.FaultPlaces.{ByteOrTextEndOrFailedRead, Byte, End, Fails, ends_token, ends_line, is_empty, fault_kind_if, is_in_header_line, header_line_fault, repeats_earlier_key, fault_at_header_line_end, fault_at_header_end, invalid_cell_fault, has_words_for_all_cells, too_few_cells_fault, key_values_of_header_lines, header_of_lines, fault_kind_of_result, place_is_up_to_first_data_token, header_rows_of_fault_table, ◌or◌}
use Rattle.cell_ascii_meaning.specs.declared.header_key.HeaderKey.{HeaderKey}
use Rattle.cell_ascii_meaning.specs.declared.grid_fault.GridKind.{GridKind}
use Rattle.cell_ascii_meaning.specs.declared.grid_fault.GridKind.TheVariants.{BadHeader, TooFew}
use Rattle.cell_ascii_meaning.specs.declared.grid_fault.GridFault.{GridFault}
use Rattle.cell_ascii_meaning.proofs.TokenLemmas.{coming, no_feed, feed_space, start-ends}
use Rattle.cell_ascii_law.proofs.LexemeLemmas.{Lines}
use Rattle.cell_ascii_law.proofs.DataLawLemmas.{read_grid_is, read_end}
use Rattle.cell_ascii_law.proofs.KeyLawLemmas.{open_keys, key_known, header_given, sides}
use Rattle.cell_ascii_law.proofs.HeaderLawLemmas.{read_opened, value_at, value_is}
use Rattle.cell_ascii_law.proofs.TextLawLemmas.{with_lines}
use Rattle.cell_ascii_law_faults.proofs.SeenLemmas.{at_seen, reports, scan}
use Rattle.cell_ascii_law_faults.proofs.PlaceWordLemmas.{table_of, judged, one_reported, one_silent, step_feed, before_word, IsAfterWord, next_word, before_gap, settled}
use Rattle.cell_ascii_law_faults.proofs.PlaceDataLemmas.{heads, has_data, heads_before, words_before, heads_more, heads_data, words_data, words_more, has_data-append, and_never, fault_in, IsData, data_first, opening_first}
use Rattle.cell_ascii_law_faults.proofs.PlaceKeyLemmas.{keys_taken, line_reported, no_value_reported, lines_more}

-- The reports of the table in the header, for any words before a place.
no_cells : (header : Result GridHeaderContents GridKind) (token : List ℕ) → invalid_cell_fault header [] token ≡ None
no_cells (Ok h) token = refl
no_cells (Err kind) token = refl

-- the report of missing cells, which only the table of a full text makes
abbrev few_by : Bool → Option GridKind → Option GridKind
few_by true o = o
few_by false o = None

judged_none : (w : Bool) (words : List (List ℕ)) (token : List ℕ) → words ≡ [] → judged w words token ≡ true
judged_none true words token none = refl
judged_none false words token none = ap (λ (ws : List (List ℕ)). place_is_up_to_first_data_token ws token) none

judged_one : (w : Bool) (words : List (List ℕ)) (v : List ℕ) (x : ℕ) (xs : List ℕ) → words ≡ v ∷ [] → judged w words (x ∷ xs) ≡ true
judged_one true words v x xs one = refl
judged_one false words v x xs one = ap (λ (ws : List (List ℕ)). place_is_up_to_first_data_token ws (x ∷ xs)) one

module _ (gap : ℕ) (inside : Bool) (ls : Lines) (line : List (List ℕ)) (header : Result GridHeaderContents GridKind) (words : List (List ℕ)) where
  -- without a value on the line, the first byte of a word reports nothing
  first_silent : (w : Bool) (b : ℕ) → words ≡ [] → is_space b ≡ false → values_of_header_line line ≡ [] → has_words_for_all_cells header words ≡ false → table_of w gap [] inside ls line header words (Byte b) ≡ None
  first_silent w b nil word none few = by w inside (judged_none w words [] nil)
    where
      by : (w t : Bool) → judged w words [] ≡ true → table_of w gap [] t ls line header words (Byte b) ≡ None
      by true true j = rw (word, no_feed b word, none, few)
      by true false j = rw (word, no_feed b word, few)
      by false true j = rw (j, word, no_feed b word, none)
      by false false j = rw (j, word, no_feed b word)

  -- with a value on the line, the first byte of a further word reports an error
  first_reported : (w : Bool) (b : ℕ) (v : List ℕ) → judged w words [] ≡ true → is_space b ≡ false → inside ≡ true → values_of_header_line line ≡ v ∷ [] → table_of w gap [] inside ls line header words (Byte b) ≡ Some BadHeader
  first_reported true b v j word head one = rw (word, head, one)
  first_reported false b v j word head one = rw (j, word, head, one)

  feed_reported : (w : Bool) (b : ℕ) → judged w words [] ≡ true → is_space b ≡ true → gap < 1048576 → table_of w gap [] inside ls line header words (Byte b) ≡ (fault_at_header_line_end inside ls line (Byte b) or None)
  feed_reported true b j space room = let t : (gap == 1048576) ≡ false = grind (arith, nat_tests) in rw (space, t)
  feed_reported false b j space room = let t : (gap == 1048576) ≡ false = grind (arith, nat_tests) in rw (j, space, t)

  end_reported : (w : Bool) → words ≡ [] → table_of w gap [] inside ls line header words End ≡ (fault_at_header_line_end inside ls line End or fault_at_header_end header words [] End or few_by w (too_few_cells_fault header words End) or None)
  end_reported true none = refl
  end_reported false none = ap (λ (t : Bool). if t then header_rows_of_fault_table gap [] inside ls line header words End else None) (judged_none false words [] none)

  -- at the end of a word of a header line, the table reports the same error as without an unfinished word
  word_reported : (w : Bool) (x : ℕ) (xs : List ℕ) → words ≡ [] → (place : ByteOrTextEndOrFailedRead) → ends_token place ≡ true → table_of w 0 (x ∷ xs) inside ls line header words place ≡ table_of w 0 [] inside ls line header words place
  word_reported true x xs none (Byte b) space = rw (none, space, no_cells header (x ∷ xs))
  word_reported true x xs none End ends = rw (none, no_cells header (x ∷ xs))
  word_reported false x xs none (Byte b) space = rw (none, space)
  word_reported false x xs none End ends = rw none
  word_reported w x xs none Fails ends = cc

  -- without a header, the end of the first word of the data reports the error of the header
  no_header_reported : (w : Bool) (x : ℕ) (xs : List ℕ) (kind : GridKind) → judged w words (x ∷ xs) ≡ true → inside ≡ false → header ≡ Err kind → length words ≡ 1 → (place : ByteOrTextEndOrFailedRead) → ends_token place ≡ true → table_of w 0 (x ∷ xs) inside ls line header words place ≡ Some kind
  no_header_reported w x xs kind j out is one (Byte b) space = by w (cases_Bool (b == 10)) words j one
    where
      by : (w : Bool) → ((b == 10) ≡ true) ⊎ ((b == 10) ≡ false) → (ws : List (List ℕ)) → judged w ws (x ∷ xs) ≡ true → length ws ≡ 1 → table_of w 0 (x ∷ xs) inside ls line header ws (Byte b) ≡ Some kind
      by true (inl feed) ws j e = rw (space, feed, out, is, e)
      by true (inr blank) ws j e = rw (space, blank, is, e)
      by false (inl feed) ws j e = rw (j, space, feed, out, is, e)
      by false (inr blank) ws j e = rw (j, space, blank, is, e)
  no_header_reported w x xs kind j out is one End ends = by w j
    where
      no_more : (t : Bool) → ◌or◌ (if t || true then Some kind else None) None ≡ Some kind
      no_more true = refl
      no_more false = refl

      by : (w : Bool) → judged w words (x ∷ xs) ≡ true → table_of w 0 (x ∷ xs) inside ls line header words End ≡ Some kind
      by true j = rw (out, is, one) (no_more (is_empty words))
      by false j = rw (j, out, is)
  no_header_reported w x xs kind j out is one Fails ends = cc

-- A line of the header, after lines without data.
is_data_not : (l : List (List ℕ)) → is_header_line l ≡ true → is_data_line l ≡ false
is_data_not [] e = cc
is_data_not (w ∷ ws) e = ap not e

no_data_not : (l : List (List ℕ)) → is_data_line l ≡ true → is_header_line l ≡ false
no_data_not [] e = refl
no_data_not (w ∷ ws) e = by (has_colon w) e
  where
    by : (t : Bool) → not t ≡ true → t ≡ false
    by true e = cc
    by false e = refl

heads-append : (ls rest : Lines) → heads (ls ++ rest) ≡ heads ls ++ heads rest
heads-append [] rest = refl
heads-append (l ∷ ls) rest = by (is_header_line l) (heads-append ls rest)
  where
    by : (t : Bool) → heads (ls ++ rest) ≡ heads ls ++ heads rest → cond t (l ∷ heads (ls ++ rest)) (heads (ls ++ rest)) ≡ cond t (l ∷ heads ls) (heads ls) ++ heads rest
    by true on = ap (λ hs. l ∷ hs) on
    by false on = on

module _ (ls : Lines) (no : has_data ls ≡ false) where
  heads_are : header_lines ls ≡ heads ls
  heads_are = ap header_lines (sym (append-nil ls)) ∙ heads_before ls [] no ∙ append-nil (heads ls)

  heads_blank : header_lines (ls ++ [] ∷ []) ≡ heads ls
  heads_blank = heads_before ls ([] ∷ []) no ∙ append-nil (heads ls)

  words_blank : data_words (ls ++ [] ∷ []) ≡ []
  words_blank = words_before ls ([] ∷ []) no

  module _ (ws : List (List ℕ)) (head : is_header_line ws ≡ true) where
    heads_with : header_lines (ls ++ ws ∷ []) ≡ heads ls ++ ws ∷ []
    heads_with = heads_before ls (ws ∷ []) no ∙ ap (λ (hs : Lines). heads ls ++ hs) (heads_more ws [] (is_data_not ws head) ∙ ap (λ (t : Bool). cond t (ws ∷ []) []) head)

    heads_next : heads (ls ++ ws ∷ []) ≡ heads ls ++ ws ∷ []
    heads_next = heads-append ls (ws ∷ []) ∙ ap (λ (t : Bool). heads ls ++ cond t (ws ∷ []) []) head

    words_none : data_words (ls ++ ws ∷ []) ≡ []
    words_none = words_before ls (ws ∷ []) no ∙ words_more ws [] (is_data_not ws head)

    data_none : has_data (ls ++ ws ∷ []) ≡ false
    data_none = has_data-append ls ws ∙ (λ i. no i || is_data_not ws head i)

    inside_is : is_in_header_line ls ws ≡ true
    inside_is = λ i. not (no i) && head i

-- The number of cells of a header is positive.
product : (rows cols : ℕ) → 0 < rows → 0 < cols → 0 < rows * cols
product zero cols r c = absurd (omega arith)
product (suc rows) zero r c = absurd (omega arith)
product (suc rows) (suc cols) r c = let e : suc rows * suc cols ≡ suc cols + rows * suc cols = omega arith in omega arith

some_cells : (k : HeaderKeyValues) (h : GridHeaderContents) → header_defined_by_keys k ≡ Ok h
    → 0 < h.region.rows * h.region.cols
some_cells k h e = let s = sides h.region (header_given k h e).good in product h.region.rows h.region.cols s.0 s.1

none_all : (k : HeaderKeyValues) (words : List (List ℕ)) → words ≡ []
    → has_words_for_all_cells (header_defined_by_keys k) words ≡ false
none_all k words none = ap (has_words_for_all_cells (header_defined_by_keys k)) none
    ∙ by (header_defined_by_keys k) refl
  where
    by : (r : Result GridHeaderContents GridKind) → header_defined_by_keys k ≡ r → has_words_for_all_cells r [] ≡ false
    by (Err kind) e = refl
    by (Ok h) e = let some = some_cells k h e in let t : nat_le (h.region.rows * h.region.cols) 0 ≡ false = grind (arith, nat_tests) in t

-- A text that ends in its header.
many_err : {X : Type 0} (one : DataPosition → ReadValueAndPositionOrFault X) (n : ℕ) (at : DataPosition) (e : GridFault) → 0 < n → one at ≡ Err e → items_read_one_after_another one n at ≡ Err e
many_err one zero at e some is = absurd (omega arith)
many_err one (suc n) at e some is = ap (λ r. r >>= (λ x. items_read_one_after_another one n x.1 >>= (λ y. Ok (
  x.0
      ∷ y.0,
  y.1,
)))) is

no_cell_left : (h : GridHeaderContents) (line : ℕ)
    → next_cell_after_position h (position_without_pending_word line 0 (coming [] false))
    ≡ Err (grid_fault_at_line TooFew line)
unfolding next_cell_after_position
no_cell_left h line = ap (cell_at_word_start h) (start-ends line 0 (omega arith))

-- The error of reading the header and, for a full text, the error of reading the data after it.
abbrev after_by : Bool → Option GridFault → Option GridFault
after_by true o = o
after_by false o = None

abbrev pub fault_after : Bool → Result HeaderAndDataStart GridFault → Option GridFault
fault_after w (Err e) = Some e
fault_after w (Ok o) = after_by w (fault_in (read_opened o))

module _ (whole : Bool) where
  module _ (line : ℕ) (keys : HeaderKeyValues) where
    ends_by : Result GridHeaderContents GridKind → Option GridFault
    ends_by r = fault_after whole ((result_with_line_in_fault line r >>= (λ h. Ok (record { header = h; at = record { pending = None; line = line; run = 0; coming = empty_coming_bytes } }))))

    end_is : (gap : ℕ) (ls : Lines) (ws : List (List ℕ)) → data_words (ls ++ ws ∷ []) ≡ [] → header_of_lines (ls ++ ws ∷ []) ≡ header_defined_by_keys keys → fault_at_header_line_end (is_in_header_line ls ws) ls ws End ≡ None
        → fault_after whole (header_and_data_start keys line None empty_coming_bytes) ≡ reports (table_of whole) (at_seen line gap ls ws []) End
    unfolding ends_by
    end_is gap ls ws none header silent = by (header_defined_by_keys keys) refl
        ∙ sym (ap (option_map (λ kind. grid_fault_at_line kind line)) (end_reported gap (is_in_header_line ls ws) ls ws (header_of_lines (ls ++ ws ∷ [])) (data_words (ls ++ ws ∷ [])) whole none ∙ (λ i. silent i or fault_at_header_end (header i) (none i) [] End or few_by whole (too_few_cells_fault (header i) (none i) End) or None)))
      where
        last : (w t : Bool) (o : Option GridFault) → t ≡ true → o ≡ Some (grid_fault_at_line TooFew line) → after_by w o ≡ option_map (λ kind. grid_fault_at_line kind line) (few_by w (fault_kind_if t TooFew) or None)
        last true t o few is = is ∙ ap (λ (u : Bool). option_map (λ kind. grid_fault_at_line kind line) (fault_kind_if u TooFew or None)) (sym few)
        last false t o few is = refl

        by : (r : Result GridHeaderContents GridKind) → header_defined_by_keys keys ≡ r → ends_by r ≡ option_map (λ kind. grid_fault_at_line kind line) (fault_kind_of_result r or few_by whole (too_few_cells_fault r [] End) or None)
        by (Err kind) e = refl
        by (Ok h) e =
            let s = sides h.region (header_given keys h e).good in
            let some = product h.region.rows h.region.cols s.0 s.1 in
            let t : nat_lt 0 (h.region.rows * h.region.cols) ≡ true = grind (arith, nat_tests) in
            last whole (nat_lt 0 (h.region.rows * h.region.cols)) (fault_in (read_opened (record { header = h; at = position_without_pending_word line 0 (coming [] false) }))) t (ap fault_in (read_grid_is h (position_without_pending_word line 0 (coming [] false)) ∙ ap (λ r. r >>= (λ x. read_end h x.0 x.1))
            (many_err (items_read_one_after_another (next_cell_after_position h) h.region.cols) h.region.rows (position_without_pending_word line 0 (coming [] false)) (grid_fault_at_line TooFew line) s.0 (many_err (next_cell_after_position h) h.region.cols (position_without_pending_word line 0 (coming [] false)) (grid_fault_at_line TooFew line) s.1 (no_cell_left h line)))))

  -- The data from the end of its first word on, with or without a valid header.
  module _ (line : ℕ) (keys : HeaderKeyValues) (ls : Lines) (no : has_data ls ≡ false) (taken : with_lines empty_header_key_values (heads ls) ≡ Ok keys) (x : ℕ) (xs : List ℕ) (word : is_data_line ((x ∷ xs) ∷ []) ≡ true) where
    abbrev first_line : Lines
    first_line = ls ++ ((x ∷ xs) ∷ []) ∷ []

    header_now : header_of_lines first_line ≡ header_defined_by_keys keys
    header_now = ap (λ (hs : Lines). header_defined_by_keys (key_values_of_header_lines hs)) (heads_before ls (((x ∷ xs) ∷ []) ∷ []) no ∙ ap (λ (hs : Lines). heads ls ++ hs) (heads_data ((x ∷ xs) ∷ []) [] word) ∙ append-nil (heads ls))
        ∙ ap header_defined_by_keys (keys_taken (heads ls) keys taken)

    words_now : data_words first_line ≡ (x ∷ xs) ∷ []
    words_now = words_before ls (((x ∷ xs) ∷ []) ∷ []) no ∙ words_data ((x ∷ xs) ∷ []) [] word

    outside_now : is_in_header_line ls ((x ∷ xs) ∷ []) ≡ false
    outside_now = (λ i. not (no i) && no_data_not ((x ∷ xs) ∷ []) word i)

    opens_by : List ℕ → Bool → Result GridHeaderContents GridKind → Option GridFault
    opens_by bs f r = fault_after whole ((result_with_line_in_fault line r >>= (λ h. Ok (record { header = h; at = record { pending = Some (x ∷ xs); line = line; run = 0; coming = coming bs f } }))))

    data_is : (bs : List ℕ) (f : Bool) → IsAfterWord bs f → fault_after whole (header_and_data_start keys line (Some (x ∷ xs)) (coming bs f)) ≡ scan (table_of whole) (at_seen line 0 ls [] (x ∷ xs)) bs f
    unfolding opens_by
    data_is bs f after = by (header_defined_by_keys keys) refl
      where
        bad : (kind : GridKind) → header_defined_by_keys keys ≡ Err kind → (place : ByteOrTextEndOrFailedRead) → ends_token place ≡ true → reports (table_of whole) (at_seen line 0 ls [] (x ∷ xs)) place ≡ Some (grid_fault_at_line kind line)
        bad kind e place ends = ap (option_map (λ kind. grid_fault_at_line kind line))
            (no_header_reported 0 (is_in_header_line ls ((x ∷ xs) ∷ [])) ls ((x ∷ xs) ∷ []) (header_of_lines first_line) (data_words first_line) whole x xs kind (judged_one whole (data_words first_line) (x ∷ xs) x xs words_now) outside_now (header_now ∙ e) (ap length words_now) place ends)

        reported : (kind : GridKind) → header_defined_by_keys keys ≡ Err kind → (cs : List ℕ) (g : Bool) → IsAfterWord cs g → scan (table_of whole) (at_seen line 0 ls [] (x ∷ xs)) cs g ≡ Some (grid_fault_at_line kind line)
        reported kind e [] true after = cc
        reported kind e [] false after = bad kind e End refl
        reported kind e (b ∷ cs) g space = one_reported whole (at_seen line 0 ls [] (x ∷ xs)) b cs g (grid_fault_at_line kind line) (bad kind e (Byte b) space)

        opens : (w : Bool) (h : GridHeaderContents) → 0 < h.region.rows → 0 < h.region.cols
            → IsData h 1 ls ((x ∷ xs) ∷ [])
            → after_by w (fault_in (read_opened (record { header = h; at = record { pending = Some (x ∷ xs); line = line; run = 0; coming = coming bs f } }))) ≡ scan (table_of w) (at_seen line 0 ls [] (x ∷ xs)) bs f
        opens true h rows cols is = data_first h rows cols line ls x xs bs f after is
        opens false h rows cols is = sym (opening_first h line ls x xs bs f after is)

        by : (r : Result GridHeaderContents GridKind) → header_defined_by_keys keys ≡ r → opens_by bs f r ≡ scan (table_of whole) (at_seen line 0 ls [] (x ∷ xs)) bs f
        by (Err kind) e = sym (reported kind e bs f after)
        by (Ok h) e =
            let s = sides h.region (header_given keys h e).good in
            opens whole h s.0 s.1 (record { header = header_now ∙ e; count = ap length words_now; begun = inr (no, word) })

  -- a line begins there, after header lines whose keys were accepted
  abbrev pub IsStart : HeaderKeyValues → Lines → List (List ℕ) → Type 0
  IsStart keys ls [] = (has_data ls ≡ false) × (with_lines empty_header_key_values (heads ls) ≡ Ok keys)
  IsStart keys ls (w ∷ ws) = ⊥

  -- from the beginning of a line on, the reading gives the error that the places report
  abbrev Follows : (HeaderKeyValues → ℕ → ℕ → ComingBytes → Result HeaderAndDataStart GridFault) → HeaderKeyValues
      → Type 0
  Follows rest keys = (more : HeaderKeyValues) → open_keys more < open_keys keys → (ls : Lines) → IsStart more ls [] → (line run : ℕ) (bs : List ℕ) (f : Bool) → run ≤ 1048576
      → fault_after whole (rest more line run (coming bs f)) ≡ scan (table_of whole) (at_seen line run ls [] []) bs f

  -- A header line after its first word; `rest` reads the lines after it.
  module _ (rest : HeaderKeyValues → ℕ → ℕ → ComingBytes → Result HeaderAndDataStart GridFault) (line : ℕ) (keys : HeaderKeyValues) (ls : Lines) (no : has_data ls ≡ false) (taken : with_lines empty_header_key_values (heads ls) ≡ Ok keys) (follows : Follows rest keys) where
    abbrev closed : HeaderLineEnd → Result HeaderKeyValues GridKind → Option GridFault
    closed end r = fault_after whole (((result_with_line_in_fault line r >>=
        (λ more. Ok (more, end))) >>= rest_of_header_after_line rest line))

    abbrev from_end : Option HeaderKey → List ℕ → Result HeaderLineEnd GridFault → Option GridFault
    from_end key value r = fault_after whole (((r >>= (λ end. result_with_line_in_fault line (key_values_with_header_key keys key value) >>= (λ more. Ok (more, end)))) >>= rest_of_header_after_line rest line))

    -- a header line with a single value
    module _ (ws : List (List ℕ)) (head : is_header_line ws ≡ true) (v : List ℕ) (one : values_of_header_line ws ≡ v
        ∷ []) where
      abbrev key : Option HeaderKey
      key = header_key_with_name (key_text_of_header_line ws)

      abbrev line_now : Lines
      line_now = ls ++ ws ∷ []

      line_why : header_line_fault (repeats_earlier_key ws (header_lines ls)) key (values_of_header_line ws) ≡ fault_kind_of_result (key_values_with_header_key keys key v)
      line_why = ap (λ (hs : Lines). header_line_fault (repeats_earlier_key ws hs) key (values_of_header_line ws)) (heads_are ls no) ∙ line_reported (heads ls) keys ws v taken one

      at_end : (place : ByteOrTextEndOrFailedRead) → ends_line place ≡ true → fault_at_header_line_end (is_in_header_line ls ws) ls ws place ≡ fault_kind_of_result (key_values_with_header_key keys key v)
      at_end place ends = (λ i. if ends i && inside_is ls no ws head i then header_line_fault (repeats_earlier_key ws (header_lines ls)) key (values_of_header_line ws) else None) ∙ line_why

      starts : (more : HeaderKeyValues) → key_values_with_header_key keys key v ≡ Ok more → IsStart more line_now []
      starts more e = (data_none ls no ws head, ap (with_lines empty_header_key_values) (heads_next ls no ws head) ∙ lines_more (heads ls) keys more ws v taken one e)

      header_next : (more : HeaderKeyValues) → key_values_with_header_key keys key v ≡ Ok more
          → header_of_lines line_now ≡ header_defined_by_keys more
      header_next more e = ap (λ (hs : Lines). header_defined_by_keys (key_values_of_header_lines hs)) (heads_with ls no ws head) ∙ ap header_defined_by_keys (keys_taken (heads ls ++ ws ∷ []) more (lines_more (heads ls) keys more ws v taken one e))

      fewer : (more : HeaderKeyValues) → key_values_with_header_key keys key v ≡ Ok more
          → open_keys more < open_keys keys
      fewer more e = let g = (key_known keys key v more e).2.fewer in omega arith

      last : (gap : ℕ) → closed None (key_values_with_header_key keys key v) ≡ reports (table_of whole) (at_seen line gap ls ws []) End
      last gap = by (key_values_with_header_key keys key v) refl
        where
          by : (r : Result HeaderKeyValues GridKind) → key_values_with_header_key keys key v ≡ r → closed None r ≡ reports (table_of whole) (at_seen line gap ls ws []) End
          by (Err kind) e = sym (ap (option_map (λ kind. grid_fault_at_line kind line)) (end_reported gap (is_in_header_line ls ws) ls ws (header_of_lines line_now) (data_words line_now) whole (words_none ls no ws head)
              ∙ (λ i. (at_end End refl ∙ ap fault_kind_of_result e) i or fault_at_header_end (header_of_lines line_now) (data_words line_now) [] End or few_by whole (too_few_cells_fault (header_of_lines line_now) (data_words line_now) End) or None)))
          by (Ok more) e = end_is line more gap ls ws (words_none ls no ws head) (header_next more e) (at_end End refl ∙ ap fault_kind_of_result e)

      second : (gap b : ℕ) (bs : List ℕ) (f : Bool) → is_space b ≡ false → Some (grid_fault_at_line BadHeader line) ≡ scan (table_of whole) (at_seen line gap ls ws []) (b ∷ bs) f
      second gap b bs f word = sym (one_reported whole (at_seen line gap ls ws []) b bs f
          (grid_fault_at_line BadHeader line)
          (ap (option_map (λ kind. grid_fault_at_line kind line)) (first_reported gap (is_in_header_line ls ws) ls ws (header_of_lines line_now) (data_words line_now) whole b v (judged_none whole (data_words line_now) [] (words_none ls no ws head)) word (inside_is ls no ws head) one)))

      fed_reported : (gap b : ℕ) → (b == 10) ≡ true → gap < 1048576 → reports (table_of whole) (at_seen line gap ls ws []) (Byte b) ≡ option_map (λ kind. grid_fault_at_line kind line) (fault_kind_of_result (key_values_with_header_key keys key v) or None)
      fed_reported gap b feed room = ap (option_map (λ kind. grid_fault_at_line kind line)) (feed_reported gap (is_in_header_line ls ws) ls ws (header_of_lines line_now) (data_words line_now) whole b (judged_none whole (data_words line_now) [] (words_none ls no ws head)) (feed_space b feed) room ∙ (λ i. at_end (Byte b) feed i or None))

      feeds : (gap b : ℕ) (bs : List ℕ) (f : Bool) → (b == 10) ≡ true → gap < 1048576 → closed (Some (gap + 1, coming bs f)) (key_values_with_header_key keys key v) ≡ scan (table_of whole) (at_seen line gap ls ws []) (b ∷ bs) f
      feeds gap b bs f feed room = by (key_values_with_header_key keys key v) refl
        where
          by : (r : Result HeaderKeyValues GridKind) → key_values_with_header_key keys key v ≡ r → closed (Some (gap + 1, coming bs f)) r ≡ scan (table_of whole) (at_seen line gap ls ws []) (b ∷ bs) f
          by (Err kind) e = sym (one_reported whole (at_seen line gap ls ws []) b bs f (grid_fault_at_line kind line) (fed_reported gap b feed room ∙ ap (λ r. option_map (λ kind. grid_fault_at_line kind line) (fault_kind_of_result r or None)) e))
          by (Ok more) e = follows more (fewer more e) line_now (starts more e) (line + 1) (gap + 1) bs f (omega arith)
              ∙ sym (one_silent whole (at_seen line gap ls ws []) (at_seen (line + 1) (gap + 1) line_now [] []) b bs f (fed_reported gap b feed room ∙ ap (λ r. option_map (λ kind. grid_fault_at_line kind line) (fault_kind_of_result r or None)) e) (step_feed (at_seen line gap ls ws []) b feed))

      value_end : (bs : List ℕ) (f : Bool) → from_end key v (header_line_end_or_fault line (end_of_continued_blank_run line 0 (coming bs f))) ≡ scan (table_of whole) (at_seen line 0 ls ws []) bs f
      value_end bs f = before_gap whole line ls ws (λ gap. from_end key v (header_line_end_or_fault line gap)) (λ e. refl) (judged_none whole (data_words line_now) [] (words_none ls no ws head)) last second feeds bs f 0 (omega arith)

    abbrev from_value : Option HeaderKey → Result (List ℕ × ComingBytes) GridFault → Option GridFault
    from_value key r = fault_after whole (((r >>= (λ value. header_line_end_or_fault line (end_of_continued_blank_run line 0 value.1) >>= (λ end. result_with_line_in_fault line (key_values_with_header_key keys key value.0) >>= (λ more. Ok (more, end))))) >>= rest_of_header_after_line rest line))

    -- a header line with its first word
    module _ (w : List ℕ) (head : has_colon w ≡ true) where
      abbrev w_key : Option HeaderKey
      w_key = header_key_with_name (before_first is_colon w)

      abbrev w_lines : Lines
      w_lines = ls ++ (w ∷ []) ∷ []

      no_value : after_first is_colon w ≡ [] → (bs : List ℕ) (f : Bool) → from_value w_key (header_value_after_colon line [] (coming bs f)) ≡ scan (table_of whole) (at_seen line 0 ls (w ∷ []) []) bs f
      no_value none bs f = ap (from_value w_key) (value_is line (coming bs f)) ∙ before_gap whole line ls (w ∷ []) (λ gap. from_value w_key (value_at line gap)) (λ e. refl) judge last begins feeds bs f 0 (omega arith)
        where
          judge : judged whole (data_words w_lines) [] ≡ true
          judge = judged_none whole (data_words w_lines) [] (words_none ls no (w ∷ []) head)

          empty : values_of_header_line (w ∷ []) ≡ []
          empty = ap (λ (a : List ℕ). filter is_nonempty_word (a ∷ [])) none

          at_end : (place : ByteOrTextEndOrFailedRead) → ends_line place ≡ true → fault_at_header_line_end (is_in_header_line ls (w ∷ [])) ls (w ∷ []) place ≡ Some BadHeader
          at_end place ends = (λ i. if ends i && inside_is ls no (w ∷ []) head i then header_line_fault (repeats_earlier_key (w ∷ []) (header_lines ls)) w_key (empty i) else None) ∙ no_value_reported (repeats_earlier_key (w ∷ []) (header_lines ls)) w_key

          last : (gap : ℕ) → Some (grid_fault_at_line BadHeader line) ≡ reports (table_of whole) (at_seen line gap ls (w ∷ []) []) End
          last gap = sym (ap (option_map (λ kind. grid_fault_at_line kind line)) (end_reported gap (is_in_header_line ls (w ∷ [])) ls (w ∷ []) (header_of_lines w_lines) (data_words w_lines) whole (words_none ls no (w ∷ []) head)
              ∙ (λ i. at_end End refl i or fault_at_header_end (header_of_lines w_lines) (data_words w_lines) [] End or few_by whole (too_few_cells_fault (header_of_lines w_lines) (data_words w_lines) End) or None)))

          feeds : (gap b : ℕ) (cs : List ℕ) (g : Bool) → (b == 10) ≡ true → gap < 1048576 → Some (grid_fault_at_line BadHeader line) ≡ scan (table_of whole) (at_seen line gap ls (w ∷ []) []) (b ∷ cs) g
          feeds gap b cs g feed room = sym (one_reported whole (at_seen line gap ls (w ∷ []) []) b cs g (grid_fault_at_line BadHeader line)
              (ap (option_map (λ kind. grid_fault_at_line kind line)) (feed_reported gap (is_in_header_line ls (w ∷ [])) ls (w ∷ []) (header_of_lines w_lines) (data_words w_lines) whole b judge (feed_space b feed) room ∙ (λ i. at_end (Byte b) feed i or None))))

          silent : (gap b : ℕ) → is_space b ≡ false → reports (table_of whole) (at_seen line gap ls (w ∷ []) []) (Byte b) ≡ None
          silent gap b word = ap (option_map (λ kind. grid_fault_at_line kind line)) (first_silent gap (is_in_header_line ls (w ∷ [])) ls (w ∷ []) (header_of_lines w_lines) (data_words w_lines) whole b (words_none ls no (w ∷ []) head) word empty
              (none_all (key_values_of_header_lines (header_lines w_lines)) (data_words w_lines) (words_none ls no (w
              ∷ []) head)))

          done : (y : ℕ) (ys cs : List ℕ) (g : Bool) → IsAfterWord cs g → from_end w_key (y ∷ ys) (header_line_end_or_fault line (end_of_continued_blank_run line 0 (coming cs g))) ≡ scan (table_of whole) (at_seen line 0 ls (w ∷ []) (y ∷ ys)) cs g
          done y ys cs g after = value_end (w ∷ (y ∷ ys) ∷ []) head (y ∷ ys) (ap (λ (a : List ℕ). filter is_nonempty_word (a ∷ (y ∷ ys) ∷ [])) none) cs g
              ∙ sym (settled whole line ls (w ∷ []) y ys (λ place ends. ap (option_map (λ kind. grid_fault_at_line kind line)) (word_reported 0 (is_in_header_line ls both) ls both (header_of_lines (ls ++ both ∷ [])) (data_words (ls ++ both ∷ [])) whole y ys (words_none ls no both head) place ends)) cs g after)
            where
              both : List (List ℕ)
              both = w ∷ (y ∷ ys) ∷ []

          begins : (gap b : ℕ) (cs : List ℕ) (g : Bool) → is_space b ≡ false → from_value w_key (word_continued_in_bytes line [] (coming (b ∷ cs) g)) ≡ scan (table_of whole) (at_seen line gap ls (w ∷ []) []) (b ∷ cs) g
          begins gap b cs g word = next_word whole line ls (w ∷ []) (from_value w_key) (λ e. refl) (λ y ys. judged_none whole (data_words (ls ++ (w ∷ (y ∷ ys) ∷ []) ∷ [])) (y ∷ ys) (words_none ls no (w ∷ (y ∷ ys) ∷ []) head)) done gap b cs g word (silent gap b word)

      line_is : (bs : List ℕ) (f : Bool) → from_value w_key (header_value_after_colon line (after_first is_colon w) (coming bs f)) ≡ scan (table_of whole) (at_seen line 0 ls (w ∷ []) []) bs f
      line_is bs f = by (after_first is_colon w) refl
        where
          by : (a : List ℕ) → after_first is_colon w ≡ a → from_value w_key (header_value_after_colon line a (coming bs f)) ≡ scan (table_of whole) (at_seen line 0 ls (w ∷ []) []) bs f
          by (y ∷ ys) e = value_end (w ∷ []) head (y ∷ ys) (ap (λ (a : List ℕ). filter is_nonempty_word (a
              ∷ [])) e) bs f
          by [] e = no_value e bs f

  -- the error that is reported from the first word of a line on
  abbrev from_word : (HeaderKeyValues → ℕ → ℕ → ComingBytes → Result HeaderAndDataStart GridFault) → HeaderKeyValues → ℕ → Result (List ℕ × ComingBytes) GridFault → Option GridFault
  from_word rest keys line r = fault_after whole ((r >>= (λ w. if has_colon w.0 then header_line_after_first_word line keys w.0 w.1 >>= rest_of_header_after_line rest line else header_and_data_start keys line (Some w.0) w.1)))

  -- reading a text from a line on gives the error that the places report
  pub header_is : (fuel : ℕ) (keys : HeaderKeyValues) → open_keys keys < fuel → (ls : Lines) → IsStart keys ls [] → (line run : ℕ) (bs : List ℕ) (f : Bool) → run ≤ 1048576
      → fault_after whole (rest_of_header_from_line fuel keys line run (coming bs f)) ≡ scan (table_of whole) (at_seen line run ls [] []) bs f
  unfolding rest_of_header_from_line
  header_is zero keys few ls is line run bs f low = absurd (omega arith)
  header_is (suc fuel) keys few ls is line run bs f low = by (λ more less ms start l r cs g lo. header_is fuel more (omega arith) ms start l r cs g lo)
    where
      rest : HeaderKeyValues → ℕ → ℕ → ComingBytes → Result HeaderAndDataStart GridFault
      rest k l r d = rest_of_header_from_line fuel k l r d

      fed : (ms : Lines) (vs : List (List ℕ)) → IsStart keys ms vs → IsStart keys (ms ++ vs ∷ []) []
      fed ms [] start = (has_data-append ms [] ∙ (λ i. start.0 i || false), ap (with_lines empty_header_key_values) (heads-append ms ([] ∷ []) ∙ append-nil (heads ms)) ∙ start.1)
      fed ms (v ∷ vs) start = absurd start

      outside : (ms : Lines) (vs : List (List ℕ)) → IsStart keys ms vs → is_in_header_line ms vs ≡ false
      outside ms [] start = and_never (not (has_data ms))
      outside ms (v ∷ vs) start = absurd start

      judge : (ms : Lines) (vs : List (List ℕ)) → IsStart keys ms vs → judged whole (data_words (ms ++ vs ∷ [])) [] ≡ true
      judge ms [] start = judged_none whole (data_words (ms ++ [] ∷ [])) [] (words_blank ms start.0)
      judge ms (v ∷ vs) start = absurd start

      -- within the first word of a line, the table can report an error
      judge_first : (ms : Lines) → has_data ms ≡ false → (x : ℕ) (xs : List ℕ) → judged whole (data_words (ms ++ ((x ∷ xs) ∷ []) ∷ [])) (x ∷ xs) ≡ true
      judge_first ms clear x xs = by (cases_Bool (has_colon (x ∷ xs)))
        where
          by : (has_colon (x ∷ xs) ≡ true) ⊎ (has_colon (x ∷ xs) ≡ false) → judged whole (data_words (ms ++ ((x ∷ xs) ∷ []) ∷ [])) (x ∷ xs) ≡ true
          by (inl colon) = judged_none whole (data_words (ms ++ ((x ∷ xs) ∷ []) ∷ [])) (x ∷ xs) (words_none ms clear ((x ∷ xs) ∷ []) colon)
          by (inr none) = judged_one whole (data_words (ms ++ ((x ∷ xs) ∷ []) ∷ [])) (x ∷ xs) x xs (words_before ms (((x ∷ xs) ∷ []) ∷ []) clear ∙ words_data ((x ∷ xs) ∷ []) [] (ap not none))

      header_now : (ms : Lines) → IsStart keys ms [] → header_of_lines (ms ++ [] ∷ []) ≡ header_defined_by_keys keys
      header_now ms start = ap (λ (hs : Lines). header_defined_by_keys (key_values_of_header_lines hs)) (heads_blank ms start.0) ∙ ap header_defined_by_keys (keys_taken (heads ms) keys start.1)

      ends : (ms : Lines) (vs : List (List ℕ)) → IsStart keys ms vs → (l g : ℕ) → fault_after whole (header_and_data_start keys l None empty_coming_bytes) ≡ scan (table_of whole) (at_seen l g ms vs []) [] false
      ends ms [] start l g = end_is l keys g ms [] (words_blank ms start.0) (header_now ms start)
          (λ i. if outside ms [] start i then header_line_fault (repeats_earlier_key [] (header_lines ms)) (header_key_with_name (key_text_of_header_line [])) (values_of_header_line []) else None)
      ends ms (v ∷ vs) start l g = absurd start

      by : Follows rest keys → fault_after whole (rest_of_header_from_word rest keys (next_word_start line run (coming bs f))) ≡ scan (table_of whole) (at_seen line run ls [] []) bs f
      by follows = before_word whole (IsStart keys) fed outside judge (λ s. fault_after whole (rest_of_header_from_word rest keys s)) (λ e. refl) begins ends bs f line run ls [] is low
        where
          first : (ms : Lines) → IsStart keys ms [] → (l x : ℕ) (xs ds : List ℕ) (h : Bool) → IsAfterWord ds h → (t : Bool) → has_colon (x ∷ xs) ≡ t
              → fault_after whole ((if t then header_line_after_first_word l keys (x ∷ xs) (coming ds h) >>= rest_of_header_after_line rest l else header_and_data_start keys l (Some (x ∷ xs)) (coming ds h))) ≡ scan (table_of whole) (at_seen l 0 ms [] (x ∷ xs)) ds h
          first ms start l x xs ds h after true e = line_is rest l keys ms start.0 start.1 follows (x ∷ xs) e ds h
              ∙ sym (settled whole l ms [] x xs (λ place stop. ap (option_map (λ kind. grid_fault_at_line kind l)) (word_reported 0 (is_in_header_line ms ((x ∷ xs) ∷ [])) ms ((x ∷ xs) ∷ []) (header_of_lines (ms ++ ((x ∷ xs) ∷ []) ∷ [])) (data_words (ms ++ ((x ∷ xs) ∷ []) ∷ [])) whole x xs (words_none ms start.0 ((x ∷ xs) ∷ []) e) place stop)) ds h after)
          first ms start l x xs ds h after false e = data_is l keys ms start.0 start.1 x xs (ap not e) ds h after

          silent : (ms : Lines) → IsStart keys ms [] → (l g b : ℕ) → is_space b ≡ false → reports (table_of whole) (at_seen l g ms [] []) (Byte b) ≡ None
          silent ms start l g b word = ap (option_map (λ kind. grid_fault_at_line kind l)) (first_silent g (is_in_header_line ms []) ms [] (header_of_lines (ms ++ [] ∷ [])) (data_words (ms ++ [] ∷ [])) whole b (words_blank ms start.0) word refl
              (none_all (key_values_of_header_lines (header_lines (ms ++ [] ∷ []))) (data_words (ms ++ [] ∷ []))
              (words_blank ms start.0)))

          begins : (ms : Lines) (vs : List (List ℕ)) → IsStart keys ms vs → (l g b : ℕ) (cs : List ℕ) (e : Bool) → is_space b ≡ false → fault_after whole (rest_of_header_from_word rest keys (Begins l (coming (b ∷ cs) e))) ≡ scan (table_of whole) (at_seen l g ms vs []) (b ∷ cs) e
          begins ms [] start l g b cs e word = next_word whole l ms [] (from_word rest keys l) (λ e. refl) (judge_first ms start.0) (λ x xs ds h after. first ms start l x xs ds h after (has_colon (x ∷ xs)) refl) g b cs e word (silent ms start l g b word)
          begins ms (v ∷ vs) start l g b cs e word = absurd start
