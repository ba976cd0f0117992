-- The header that is read from a text is the header of its header lines, for any data after them.
use Rattle.std.proofs.Common.{◌≡◌, ℕ, zero, suc, ◌+◌, ◌<◌, ◌≤◌, List, [], ◌∷◌, ◌++◌, Option, Some, None, ◌==◌, Bool, true, false, cond, length, refl, ap, sym, ◌∙◌, arith, if◌then◌else◌, length-append, Result, Ok, Err, subst, ◌⊎◌, inl, inr}
use Rattle.std.specs.List.{filter, before_first, after_first}
use Rattle.std.proofs.lemmas.Bool.{cases_Bool, cases_lt}
use Rattle.cell_core_devices.specs.Device.{ComingBytes}
use Rattle.cell_ascii_meaning.specs.GridTokens.{NextWordStart, Begins, Ends, Stops, next_word_start, is_space}
use Rattle.cell_ascii_meaning.specs.GridTokens.{grid_fault_at_line, word_continued_in_bytes}
use Rattle.cell_ascii_meaning.specs.KeyNames.{header_key_with_name}
use Rattle.cell_ascii_meaning.specs.Header.{GridHeaderContents, HeaderAndDataStart, HeaderKeyValues, empty_header_key_values, key_values_with_header_key, header_defined_by_keys, is_colon, has_colon, BlankRunEnd, Word, Feed, Last, Fault, end_of_continued_blank_run, header_value_after_colon, HeaderLineEnd, header_line_end_or_fault, result_with_line_in_fault, header_line_after_first_word, empty_coming_bytes, header_and_data_start, DataPosition, rest_of_header_after_line, rest_of_header_from_word, rest_of_header_from_line, ◌>>=◌}
use Rattle.cell_ascii_meaning.specs.GridText.{is_nonempty_word, words_of_each_line, header_lines, HeaderLinesFormHeader}
use Rattle.cell_ascii_meaning.specs.declared.header_key.HeaderKey.{HeaderKey}
use Rattle.cell_ascii_meaning.specs.declared.grid_fault.GridKind.{GridKind}
use Rattle.cell_ascii_meaning.specs.declared.grid_fault.GridKind.TheVariants.{Read, ReaderStuck, LongToken}
use Rattle.cell_ascii_meaning.specs.declared.grid_fault.GridFault.{GridFault}
use Rattle.cell_ascii_law.specs.GridLaw.{ReadHeaderIsDenotedHeader}
use Rattle.cell_ascii_meaning.proofs.TokenLemmas.{coming, start-ends, start-fails, start-begins, start-stuck, start-more}
use Rattle.cell_ascii_meaning.proofs.TokenLemmas.{gap-ends, gap-fails, gap-word, gap-feed, gap-stuck, gap-more, word-ends, word-fails, word-stops, word-long, word-more}
use Rattle.cell_ascii_law.proofs.LexemeLemmas.{Lines, first_line, rest_lines, put, opening}
use Rattle.cell_ascii_law.proofs.HeaderLawLemmas.{with_values, with_line, after_key, take_by, value_is, value_at}
use Rattle.cell_ascii_law.proofs.KeyLawLemmas.{header_given}
use Rattle.cell_ascii_law.proofs.LimitLawLemmas.{IsFree, free_more, lines_alone, lines_space, one_more}
use Rattle.cell_ascii_law.proofs.TextLawLemmas.{with_lines, text_parts, header_read}

none_some : {X A : Type 0} (x : X) → None ≡ Some x → A
none_some x e = let h : ⊥ = cc in absurd h

-- a blank before a text leaves its words as they are, and a line feed also begins a new line
lines_after : (b : ℕ) (bs : List ℕ) → is_space b ≡ true → words_of_each_line (b ∷ bs)
    ≡ opening (b == 10) (words_of_each_line bs)
lines_after b bs space = lines_space [] b bs tt space

-- If reading the coming bytes gives y by k, G gives y for the lines of the text.
module _ {Y : Type 0} (y : Y) (G : Lines → Option Y) where
  opened_lines : (skips : (ls : Lines) → G ([] ∷ ls) ≡ G ls) (t : Bool) (ls : Lines) → G ls ≡ Some y
      → G (opening t ls) ≡ Some y
  opened_lines skips true ls e = skips ls ∙ e
  opened_lines skips false ls e = e

  module _ (skips : (ls : Lines) → G ([] ∷ ls) ≡ G ls) (k : NextWordStart → Option Y)
      (stops : (e : GridFault) → k (Stops e) ≡ None) (ends : (line : ℕ) → k (Ends line) ≡ G [])
      (begins : (line b : ℕ) (bs : List ℕ) (f : Bool) → is_space b ≡ false
      → k (Begins line (coming (b ∷ bs) f)) ≡ Some y → G (words_of_each_line (b ∷ bs)) ≡ Some y) where
    from_start : (bs : List ℕ) (f : Bool) (line run : ℕ) → run ≤ 1048576
        → k (next_word_start line run (coming bs f)) ≡ Some y
        → G (words_of_each_line bs) ≡ Some y
    from_start [] false line run low e = skips [] ∙ sym (ends line) ∙ sym (ap k (start-ends line run low)) ∙ e
    from_start [] true line run low e =
        none_some y (sym (ap k (start-fails line run low) ∙ stops (grid_fault_at_line Read line)) ∙ e)
    from_start (b ∷ bs) f line run low e =
        by (from_start bs f (line + cond (b == 10) 1 0) (run + 1)) (cases_Bool (is_space b)) (cases_lt run 1048576)
      where
        by : (run + 1 ≤ 1048576 → k (next_word_start (line + cond (b == 10) 1 0) (run + 1) (coming bs f)) ≡ Some y
            → G (words_of_each_line bs) ≡ Some y)
            → (is_space b ≡ true) ⊎ (is_space b ≡ false) → (run < 1048576) ⊎ (1048576 ≤ run)
            → G (words_of_each_line (b ∷ bs)) ≡ Some y
        by on (inr word) _ = begins line b bs f word (sym (ap k (start-begins line run low b bs f word)) ∙ e)
        by on (inl space) (inr full) =
            none_some y
            (sym (ap k (start-stuck line run low b bs f space full) ∙ stops (grid_fault_at_line ReaderStuck line)) ∙ e)
        by on (inl space) (inl room) =
            ap G (lines_after b bs space)
            ∙ opened_lines skips (b == 10) (words_of_each_line bs)
            (on (omega arith) (sym (ap k (start-more line run low b bs f space room)) ∙ e))

  module _ (line : ℕ) (k : Result (List ℕ × ComingBytes) GridFault → Option Y) (fails : (e : GridFault)
      → k (Err e) ≡ None)
      (done : (x : ℕ) (xs bs : List ℕ) (f : Bool) → k (Ok (x ∷ xs, coming bs f)) ≡ Some y → G
      (put (x ∷ xs) (words_of_each_line bs)) ≡ Some y) where
    in_word : (bs : List ℕ) (f : Bool) (x : ℕ) (xs : List ℕ) → length (x ∷ xs) ≤ 64 → IsFree is_space (x ∷ xs)
        → k (word_continued_in_bytes line (x ∷ xs) (coming bs f)) ≡ Some y
        → G (words_of_each_line ((x ∷ xs) ++ bs)) ≡ Some y
    in_word [] false x xs short free e =
        ap G (lines_alone (x ∷ xs) free) ∙ done x xs [] false (sym (ap k (word-ends line (x ∷ xs) short)) ∙ e)
    in_word [] true x xs short free e =
        none_some y (sym (ap k (word-fails line (x ∷ xs) short) ∙ fails (grid_fault_at_line Read line)) ∙ e)
    in_word (b ∷ bs) f x xs short free e =
        by (in_word bs f x (xs ++ b ∷ [])) (cases_Bool (is_space b)) (cases_lt (length (x ∷ xs)) 64)
      where
        by : (length (x ∷ (xs ++ b ∷ [])) ≤ 64 → IsFree is_space (x ∷ (xs ++ b ∷ []))
            → k (word_continued_in_bytes line (x ∷ (xs ++ b ∷ [])) (coming bs f)) ≡ Some y
            → G (words_of_each_line ((x ∷ (xs ++ b ∷ [])) ++ bs)) ≡ Some y)
            → (is_space b ≡ true) ⊎ (is_space b ≡ false) → (length (x ∷ xs) < 64) ⊎ (64 ≤ length (x ∷ xs))
            → G (words_of_each_line ((x ∷ xs) ++ b ∷ bs)) ≡ Some y
        by on (inl space) _ =
            ap G (lines_space (x ∷ xs) b bs free space ∙ ap (put (x ∷ xs)) (sym (lines_after b bs space)))
            ∙ done x xs (b ∷ bs) f (sym (ap k (word-stops line (x ∷ xs) short b bs f space)) ∙ e)
        by on (inr word) (inr full) =
            none_some y
            (sym (ap k (word-long line (x ∷ xs) short b bs f word full) ∙ fails (grid_fault_at_line LongToken line))
            ∙ e)
        by on (inr word) (inl room) =
            ap (λ l. G (words_of_each_line l)) (sym (one_more (x ∷ xs) b bs))
            ∙ on (omega (arith, length-append xs (b ∷ []))) (free_more is_space (x ∷ xs) b free word)
            (sym (ap k (word-more line (x ∷ xs) short b bs f word)) ∙ e)

    -- if the reading gives y from the first byte of a word on, so does G for the lines of the text
    from_word : (b : ℕ) (bs : List ℕ) (f : Bool) → is_space b ≡ false
        → k (word_continued_in_bytes line [] (coming (b ∷ bs) f)) ≡ Some y
        → G (words_of_each_line (b ∷ bs)) ≡ Some y
    from_word b bs f word e =
        in_word bs f b [] (omega arith) (word, tt) (sym (ap k (word-more line [] (omega arith) b bs f word)) ∙ e)

  module _ (line : ℕ) (k : BlankRunEnd → Option Y) (fails : (e : GridFault) → k (Fault e) ≡ None)
      (last : k Last ≡ Some y → G ([] ∷ []) ≡ Some y)
      (begins : (b : ℕ) (bs : List ℕ) (f : Bool) → is_space b ≡ false → k (Word (coming (b ∷ bs) f)) ≡ Some y
      → G (words_of_each_line (b ∷ bs)) ≡ Some y)
      (feeds : (run : ℕ) (bs : List ℕ) (f : Bool) → run ≤ 1048576 → k (Feed run (coming bs f)) ≡ Some y
      → G ([] ∷ words_of_each_line bs) ≡ Some y) where
    from_gap : (bs : List ℕ) (f : Bool) (run : ℕ) → run ≤ 1048576
        → k (end_of_continued_blank_run line run (coming bs f)) ≡ Some y
        → G (words_of_each_line bs) ≡ Some y
    from_gap [] false run low e = last (sym (ap k (gap-ends line run low)) ∙ e)
    from_gap [] true run low e = none_some y (sym (ap k (gap-fails line run low)
        ∙ fails (grid_fault_at_line Read line)) ∙ e)
    from_gap (b ∷ bs) f run low e =
        by (from_gap bs f (run + 1)) (cases_Bool (is_space b)) (cases_Bool (b == 10)) (cases_lt run 1048576)
      where
        by : (run + 1 ≤ 1048576 → k (end_of_continued_blank_run line (run + 1) (coming bs f)) ≡ Some y
            → G (words_of_each_line bs) ≡ Some y)
            → (is_space b ≡ true) ⊎ (is_space b ≡ false) → ((b == 10) ≡ true) ⊎ ((b == 10) ≡ false)
            → (run < 1048576) ⊎ (1048576 ≤ run) → G (words_of_each_line (b ∷ bs)) ≡ Some y
        by on (inr word) _ _ = begins b bs f word (sym (ap k (gap-word line run low b bs f word)) ∙ e)
        by on (inl space) (inl feed) (inl room) =
            ap G (lines_after b bs space ∙ ap (λ (t : Bool). opening t (words_of_each_line bs)) feed)
            ∙ feeds (run + 1) bs f (omega arith) (sym (ap k (gap-feed line run low b bs f feed room)) ∙ e)
        by on (inl space) (inr blank) (inl room) =
            ap G (lines_after b bs space ∙ ap (λ (t : Bool). opening t (words_of_each_line bs)) blank)
            ∙ on (omega arith) (sym (ap k (gap-more line run low b bs f space blank)) ∙ e)
        by on (inl space) _ (inr full) =
            none_some y
            (sym (ap k (gap-stuck line run low b bs f space full) ∙ fails (grid_fault_at_line ReaderStuck line)) ∙ e)

-- the header of an opened text, or none if the opening failed
abbrev said : Result HeaderAndDataStart GridFault → Option GridHeaderContents
said (Ok o) = Some o.header
said (Err e) = None

abbrev given_header : Result GridHeaderContents GridKind → Option GridHeaderContents
given_header (Ok h) = Some h
given_header (Err kind) = None

-- the header of the keys, for any words of the data
abbrev pub take_header : HeaderKeyValues → List (List ℕ) → Option GridHeaderContents
take_header keys words = given_header (header_defined_by_keys keys)

abbrev take_lines : HeaderKeyValues → Lines → Option GridHeaderContents
take_lines = take_by take_header

opened_said : (keys : HeaderKeyValues) (line : ℕ) (pending : Option (List ℕ)) (c : ComingBytes)
    → said (header_and_data_start keys line pending c) ≡ given_header (header_defined_by_keys keys)
opened_said keys line pending c = by (header_defined_by_keys keys)
  where
    place : DataPosition
    place = record { pending = pending; line = line; run = 0; coming = c }

    by : (r : Result GridHeaderContents GridKind)
        → said (result_with_line_in_fault line r >>= (λ h. Ok (record { header = h; at = place }))) ≡ given_header r
    by (Ok h) = refl
    by (Err kind) = refl

-- A header line after its first word; `rest` reads the lines after it.
module _ (h : GridHeaderContents) (rest : HeaderKeyValues → ℕ → ℕ → ComingBytes
    → Result HeaderAndDataStart GridFault) (line : ℕ)
    (keys : HeaderKeyValues)
    (key : Option HeaderKey)
    (follows : (more : HeaderKeyValues) (l run : ℕ) (bs : List ℕ) (f : Bool) → run ≤ 1048576
    → said (rest more l run (coming bs f)) ≡ Some h → take_lines more (words_of_each_line bs) ≡ Some h) where
  abbrev closed : HeaderLineEnd → Result HeaderKeyValues GridKind → Option GridHeaderContents
  closed end r = said ((result_with_line_in_fault line r >>= (λ more. Ok (more, end))) >>= rest_of_header_after_line
      rest line)

  closed_none : (r : Result HeaderKeyValues GridKind) → closed None r ≡ after_key r (λ k. take_lines k [])
  closed_none (Ok more) = opened_said more line None empty_coming_bytes
  closed_none (Err kind) = refl

  closed_some : (r : Result HeaderKeyValues GridKind) (run : ℕ) (bs : List ℕ) (f : Bool) → run ≤ 1048576
      → closed (Some (run, coming bs f)) r ≡ Some h
      → after_key r (λ k. take_lines k (words_of_each_line bs)) ≡ Some h
  closed_some (Ok more) run bs f low e = follows more (line + 1) run bs f low e
  closed_some (Err kind) run bs f low e = none_some h e

  abbrev taken : List (List ℕ) → Lines → Option GridHeaderContents
  taken vs ls = after_key (with_values keys key vs) (λ k. take_lines k (rest_lines ls))

  abbrev from_end : List ℕ → Result HeaderLineEnd GridFault → Option GridHeaderContents
  from_end value r =
      said ((r >>= (λ end. result_with_line_in_fault line (key_values_with_header_key keys key value) >>=
      (λ more. Ok (more, end))))
      >>= rest_of_header_after_line rest line)

  value_end : (value bs : List ℕ) (f : Bool) → from_end value
      (header_line_end_or_fault line (end_of_continued_blank_run line 0 (coming bs f))) ≡ Some h
      → taken (value ∷ filter is_nonempty_word (first_line (words_of_each_line bs))) (words_of_each_line bs) ≡ Some h
  value_end value bs f =
      from_gap h (λ ls. taken (value ∷ filter is_nonempty_word (first_line ls)) ls) line
      (λ gap. from_end value (header_line_end_or_fault line gap)) (λ e. refl)
      (λ e. sym (closed_none (key_values_with_header_key keys key value)) ∙ e) (λ b cs g word e. none_some h e)
      (λ run cs g low e. closed_some (key_values_with_header_key keys key value) run cs g low e) bs f 0 (omega arith)

  abbrev from_value : Result (List ℕ × ComingBytes) GridFault → Option GridHeaderContents
  from_value r =
      said ((r >>= (λ value. header_line_end_or_fault line (end_of_continued_blank_run line 0 value.1)
      >>= (λ end. result_with_line_in_fault line (key_values_with_header_key keys key value.0) >>=
      (λ more. Ok (more, end)))))
      >>= rest_of_header_after_line rest line)

  line_said : (a bs : List ℕ) (f : Bool) → from_value (header_value_after_colon line a (coming bs f)) ≡ Some h
      → taken (filter is_nonempty_word (a ∷ first_line (words_of_each_line bs))) (words_of_each_line bs) ≡ Some h
  line_said (x ∷ xs) bs f e = value_end (x ∷ xs) bs f e
  line_said [] bs f e =
      from_gap h (λ ls. taken (filter is_nonempty_word ([] ∷ first_line ls)) ls) line
      (λ gap. from_value (value_at line gap))
      (λ e. refl)
      (λ e. none_some h e)
      (λ b cs g word. from_word h (λ ls. taken (filter is_nonempty_word ([] ∷ first_line ls)) ls) line from_value
      (λ e. refl)
      (λ x xs ds g. value_end (x ∷ xs) ds g) b cs g word)
      (λ run cs g low e. none_some h e) bs f 0 (omega arith) (sym (ap from_value (value_is line (coming bs f))) ∙ e)

-- the header that is read from the first word of a line on
abbrev said_word : (HeaderKeyValues → ℕ → ℕ → ComingBytes → Result HeaderAndDataStart GridFault) → HeaderKeyValues → ℕ
    → Result (List ℕ × ComingBytes) GridFault
    → Option GridHeaderContents
said_word rest keys line r =
    said (r >>= (λ w. if has_colon w.0 then header_line_after_first_word line keys w.0 w.1 >>= rest_of_header_after_line
    rest line
    else header_and_data_start keys line (Some w.0) w.1))

header_said : (h : GridHeaderContents) (fuel : ℕ) (keys : HeaderKeyValues) (line run : ℕ) (bs : List ℕ) (f : Bool)
    → run ≤ 1048576
    → said (rest_of_header_from_line fuel keys line run (coming bs f)) ≡ Some h
    → take_lines keys (words_of_each_line bs) ≡ Some h
unfolding rest_of_header_from_line
header_said h zero keys line run bs f low e = none_some h e
header_said h (suc fuel) keys line run bs f low e =
    by (λ more l r cs g lo said_so. header_said h fuel more l r cs g lo said_so) e
  where
    rest : HeaderKeyValues → ℕ → ℕ → ComingBytes → Result HeaderAndDataStart GridFault
    rest k l r d = rest_of_header_from_line fuel k l r d

    by : ((more : HeaderKeyValues) (l r : ℕ) (cs : List ℕ) (g : Bool) → r ≤ 1048576
        → said (rest more l r (coming cs g)) ≡ Some h
        → take_lines more (words_of_each_line cs) ≡ Some h)
        → said (rest_of_header_from_word rest keys (next_word_start line run (coming bs f))) ≡ Some h
        → take_lines keys (words_of_each_line bs) ≡ Some h
    by follows =
        from_start h (take_lines keys) (λ ls. refl) (λ s. said (rest_of_header_from_word rest keys s)) (λ e. refl)
        (λ l. opened_said keys l None empty_coming_bytes) begins bs f line run low
      where
        first : (l x : ℕ) (xs ds : List ℕ) (g t : Bool)
            → said (if t then header_line_after_first_word l keys (x
            ∷ xs) (coming ds g) >>= rest_of_header_after_line rest l
            else header_and_data_start keys l (Some (x ∷ xs)) (coming ds g)) ≡ Some h
            → (if t then after_key (with_line keys ((x ∷ xs) ∷ first_line (words_of_each_line ds)))
            (λ k. take_lines k (rest_lines (words_of_each_line ds)))
            else given_header (header_defined_by_keys keys)) ≡ Some h
        first l x xs ds g true e =
            line_said h rest l keys (header_key_with_name (before_first is_colon (x ∷ xs))) follows
            (after_first is_colon (x ∷ xs)) ds g e
        first l x xs ds g false e = sym (opened_said keys l (Some (x ∷ xs)) (coming ds g)) ∙ e

        begins : (l b : ℕ) (cs : List ℕ) (g : Bool) → is_space b ≡ false
            → said (rest_of_header_from_word rest keys (Begins l (coming (b ∷ cs) g))) ≡ Some h
            → take_lines keys (words_of_each_line (b ∷ cs)) ≡ Some h
        begins l b cs g word =
            from_word h (take_lines keys) l (said_word rest keys l) (λ e. refl)
            (λ x xs ds k. first l x xs ds k (has_colon (x ∷ xs))) b cs g word

-- the header that is taken from all lines is the header of their header lines
lines_say : (ls : Lines) (h : GridHeaderContents) → take_lines empty_header_key_values ls ≡ Some h
    → HeaderLinesFormHeader (header_lines ls) h
lines_say ls h e = by (with_lines empty_header_key_values (header_lines ls)) refl
    (sym (text_parts take_header ls empty_header_key_values) ∙ e)
  where
    last : (k : HeaderKeyValues) → with_lines empty_header_key_values (header_lines ls) ≡ Ok k
        → (r : Result GridHeaderContents GridKind)
        → header_defined_by_keys k ≡ r
        → given_header r ≡ Some h → HeaderLinesFormHeader (header_lines ls) h
    last k is (Err kind) given e = none_some h e
    last k is (Ok g) given e =
        let same : g ≡ h = cc in
        subst (HeaderLinesFormHeader (header_lines ls)) same (header_read (header_lines ls) k g is
        (header_given k g given))

    by : (r : Result HeaderKeyValues GridKind) → with_lines empty_header_key_values (header_lines ls) ≡ r
        → after_key r (λ k. given_header (header_defined_by_keys k)) ≡ Some h
        → HeaderLinesFormHeader (header_lines ls) h
    by (Err kind) is e = none_some h e
    by (Ok k) is e = last k is (header_defined_by_keys k) refl e

pub headers_agree : ReadHeaderIsDenotedHeader
headers_agree c o e =
    lines_say (words_of_each_line c.bytes) o.header
    (header_said o.header 10 empty_header_key_values 1 0 c.bytes c.fails (omega arith) (ap said e))
