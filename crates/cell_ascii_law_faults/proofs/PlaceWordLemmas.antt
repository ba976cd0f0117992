-- The words of a text and the bytes between them, compared with the places that they pass.
use Rattle.std.proofs.Common.{◌≡◌, ℕ, ◌+◌, ◌<◌, ◌≤◌, List, [], ◌∷◌, ◌++◌, Option, Some, None, ◌==◌, Bool, true, false, cond, length, refl, ap, sym, ◌∙◌, arith, length-append, Result, Ok, Err, ◌⊎◌, inl, inr}
use Rattle.std.specs.Option.{option_map}
use Rattle.std.proofs.lemmas.Bool.{cases_Bool, cases_lt}
use Rattle.std.proofs.lemmas.Bool.Decides.{nat_tests}
use Rattle.cell_core_devices.specs.Device.{ComingBytes}
use Rattle.cell_ascii_meaning.specs.GridTokens.{NextWordStart, Begins, Ends, Stops, next_word_start, is_space}
use Rattle.cell_ascii_meaning.specs.GridTokens.{grid_fault_at_line, word_continued_in_bytes}
use Rattle.cell_ascii_meaning.specs.Header.{GridHeaderContents, BlankRunEnd, Word, Feed, Last, Fault}
use Rattle.cell_ascii_meaning.specs.Header.{end_of_continued_blank_run}
use Rattle.cell_ascii_meaning.specs.GridText.{data_words}
use Rattle.cell_ascii_meaning.specs.FaultPlaces.{ByteOrTextEndOrFailedRead, Byte, End, Fails, ends_token, is_in_header_line, header_of_lines, FaultTable, full_fault_table, fault_table_up_to_first_data_token, place_is_up_to_first_data_token, ◌or◌}
use Rattle.cell_ascii_meaning.specs.declared.grid_fault.GridKind.{GridKind}
use Rattle.cell_ascii_meaning.specs.declared.grid_fault.GridKind.TheVariants.{Read, ReaderStuck, LongToken}
use Rattle.cell_ascii_meaning.specs.declared.grid_fault.GridFault.{GridFault}
use Rattle.cell_ascii_meaning.proofs.TokenLemmas.{coming, no_feed, feed_space, start-ends, start-fails, start-begins, start-stuck, start-more}
use Rattle.cell_ascii_meaning.proofs.TokenLemmas.{gap-ends, gap-fails, gap-word, gap-feed, gap-stuck, gap-more, word-ends, word-fails, word-stops, word-long, word-more}
use Rattle.cell_ascii_law.proofs.LexemeLemmas.{Lines}
use Rattle.cell_ascii_law_faults.proofs.SeenLemmas.{Seen, at_seen, here, all_lines, reports, step, step_by, scan}

-- the table of a full text, or of only its opening
abbrev pub table_of : Bool → FaultTable
table_of true = full_fault_table
table_of false = fault_table_up_to_first_data_token

-- the places at which the table can report an error
abbrev pub judged : Bool → List (List ℕ) → List ℕ → Bool
judged true words token = true
judged false words token = place_is_up_to_first_data_token words token

pub step_word : (s : Seen) (b : ℕ) → is_space b ≡ false → step s b ≡ step_by false false s b
step_word s b word = λ i. step_by (word i) (no_feed b word i) s b

pub step_blank : (s : Seen) (b : ℕ) → is_space b ≡ true → (b == 10) ≡ false → step s b ≡ step_by true false s b
step_blank s b space blank = λ i. step_by (space i) (blank i) s b

pub step_feed : (s : Seen) (b : ℕ) → (b == 10) ≡ true → step s b ≡ step_by true true s b
step_feed s b feed = λ i. step_by (feed_space b feed i) (feed i) s b

-- a word is followed by a blank, or by the end of the text
abbrev pub IsAfterWord : List ℕ → Bool → Type 0
IsAfterWord [] f = f ≡ false
IsAfterWord (b ∷ bs) f = is_space b ≡ true

-- The reports of the table at one byte, for any words before it.
module _ (gap : ℕ) (inside : Bool) (ls : Lines) (line : List (List ℕ)) (header : Result GridHeaderContents GridKind) (words : List (List ℕ)) (b : ℕ) where
  blank_silent : (w : Bool) → judged w words [] ≡ true → is_space b ≡ true → (b == 10) ≡ false → gap < 1048576 → table_of w gap [] inside ls line header words (Byte b) ≡ None
  blank_silent true j space blank room = let t : (gap == 1048576) ≡ false = grind (arith, nat_tests) in rw (space, blank, t)
  blank_silent false j space blank room = let t : (gap == 1048576) ≡ false = grind (arith, nat_tests) in rw (j, space, blank, t)

  fed_silent : (w : Bool) → judged w words [] ≡ true → is_space b ≡ true → (b == 10) ≡ true → inside ≡ false → gap < 1048576 → table_of w gap [] inside ls line header words (Byte b) ≡ None
  fed_silent true j space feed outside room = let t : (gap == 1048576) ≡ false = grind (arith, nat_tests) in rw (space, feed, outside, t)
  fed_silent false j space feed outside room = let t : (gap == 1048576) ≡ false = grind (arith, nat_tests) in rw (j, space, feed, outside, t)

  feed_silent : (w : Bool) → judged w words [] ≡ true → is_space b ≡ true → inside ≡ false → gap < 1048576 → table_of w gap [] inside ls line header words (Byte b) ≡ None
  feed_silent w j space outside room = by (cases_Bool (b == 10))
    where
      by : ((b == 10) ≡ true) ⊎ ((b == 10) ≡ false) → table_of w gap [] inside ls line header words (Byte b) ≡ None
      by (inl feed) = fed_silent w j space feed outside room
      by (inr blank) = blank_silent w j space blank room

  space_stuck : (w : Bool) → judged w words [] ≡ true → is_space b ≡ true → gap ≡ 1048576 → table_of w gap [] inside ls line header words (Byte b) ≡ Some ReaderStuck
  space_stuck true j space full = rw (space, full)
  space_stuck false j space full = rw (j, space, full)

  more_silent : (w : Bool) (x : ℕ) (xs : List ℕ) → judged w words (x ∷ xs) ≡ true → is_space b ≡ false → length (x ∷ xs) < 64 → table_of w gap (x ∷ xs) inside ls line header words (Byte b) ≡ None
  more_silent true x xs j word short = let t : (length (x ∷ xs) == 64) ≡ false = grind (arith, nat_tests) in rw (word, no_feed b word, t)
  more_silent false x xs j word short = let t : (length (x ∷ xs) == 64) ≡ false = grind (arith, nat_tests) in rw (j, word, no_feed b word, t)

  more_long : (w : Bool) (x : ℕ) (xs : List ℕ) → judged w words (x ∷ xs) ≡ true → is_space b ≡ false → 64 ≡ length (x ∷ xs) → table_of w gap (x ∷ xs) inside ls line header words (Byte b) ≡ Some LongToken
  more_long true x xs j word long = rw (word, sym long)
  more_long false x xs j word long = rw (j, word, sym long)

fails_reported : (w : Bool) (gap : ℕ) (token : List ℕ) (inside : Bool) (ls : Lines) (line : List (List ℕ)) (header : Result GridHeaderContents GridKind) (words : List (List ℕ)) → judged w words token ≡ true → table_of w gap token inside ls line header words Fails ≡ Some Read
fails_reported true gap token inside ls line header words j = refl
fails_reported false gap token inside ls line header words j = rw j

module _ (whole : Bool) where
  reads : (s : Seen) → judged whole (data_words (all_lines s)) s.token ≡ true → reports (table_of whole) s Fails ≡ Some (grid_fault_at_line Read s.line)
  reads s j = ap (option_map (λ kind. grid_fault_at_line kind s.line)) (fails_reported whole s.gap s.token (is_in_header_line s.earlier (here s)) s.earlier (here s) (header_of_lines (all_lines s)) (data_words (all_lines s)) j)

  pub one_reported : (s : Seen) (b : ℕ) (bs : List ℕ) (f : Bool) (e : GridFault) → reports (table_of whole) s (Byte b) ≡ Some e → scan (table_of whole) s (b ∷ bs) f ≡ Some e
  one_reported s b bs f e t = ap (λ (o : Option GridFault). o or scan (table_of whole) (step s b) bs f) t

  pub one_silent : (s n : Seen) (b : ℕ) (bs : List ℕ) (f : Bool) → reports (table_of whole) s (Byte b) ≡ None → step s b ≡ n → scan (table_of whole) s (b ∷ bs) f ≡ scan (table_of whole) n bs f
  one_silent s n b bs f t e = ap (λ (o : Option GridFault). o or scan (table_of whole) (step s b) bs f) t ∙ ap (λ (m : Seen). scan (table_of whole) m bs f) e

  -- Blanks before the next word: if k agrees with the places from the word on, and at the end, k agrees from here on.
  module _ (IsAt : Lines → List (List ℕ) → Type 0) (fed : (ls : Lines) (ws : List (List ℕ)) → IsAt ls ws → IsAt (ls ++ ws ∷ []) []) (outside : (ls : Lines) (ws : List (List ℕ)) → IsAt ls ws → is_in_header_line ls ws ≡ false)
      (judge : (ls : Lines) (ws : List (List ℕ)) → IsAt ls ws → judged whole (data_words (ls ++ ws ∷ [])) [] ≡ true)
      (k : NextWordStart → Option GridFault) (stops : (e : GridFault) → k (Stops e) ≡ Some e)
      (begins : (ls : Lines) (ws : List (List ℕ)) → IsAt ls ws → (line gap b : ℕ) (bs : List ℕ) (f : Bool) → is_space b ≡ false → k (Begins line (coming (b ∷ bs) f)) ≡ scan (table_of whole) (at_seen line gap ls ws []) (b ∷ bs) f)
      (ends : (ls : Lines) (ws : List (List ℕ)) → IsAt ls ws → (line gap : ℕ) → k (Ends line) ≡ scan (table_of whole) (at_seen line gap ls ws []) [] false) where
    pub before_word : (bs : List ℕ) (f : Bool) (line gap : ℕ) (ls : Lines) (ws : List (List ℕ)) → IsAt ls ws → gap ≤ 1048576 → k (next_word_start line gap (coming bs f)) ≡ scan (table_of whole) (at_seen line gap ls ws []) bs f
    before_word [] false line gap ls ws is low = ap k (start-ends line gap low) ∙ ends ls ws is line gap
    before_word [] true line gap ls ws is low = ap k (start-fails line gap low) ∙ stops (grid_fault_at_line Read line) ∙ sym (reads (at_seen line gap ls ws []) (judge ls ws is))
    before_word (b ∷ bs) f line gap ls ws is low = by (before_word bs f) (cases_Bool (is_space b)) (cases_Bool (b == 10)) (cases_lt gap 1048576)
      where
        s : Seen
        s = at_seen line gap ls ws []

        silent : is_space b ≡ true → gap < 1048576 → reports (table_of whole) s (Byte b) ≡ None
        silent space room = ap (option_map (λ kind. grid_fault_at_line kind line)) (feed_silent gap (is_in_header_line ls ws) ls ws (header_of_lines (ls ++ ws ∷ [])) (data_words (ls ++ ws ∷ [])) b whole (judge ls ws is) space (outside ls ws is) room)

        full_is : 1048576 ≤ gap → gap ≡ 1048576
        full_is full = omega arith

        by : ((l g : ℕ) (ms : Lines) (vs : List (List ℕ)) → IsAt ms vs → g ≤ 1048576 → k (next_word_start l g (coming bs f)) ≡ scan (table_of whole) (at_seen l g ms vs []) bs f)
            → (is_space b ≡ true) ⊎ (is_space b ≡ false) → ((b == 10) ≡ true) ⊎ ((b == 10) ≡ false) → (gap < 1048576) ⊎ (1048576 ≤ gap) → k (next_word_start line gap (coming (b ∷ bs) f)) ≡ scan (table_of whole) s (b ∷ bs) f
        by on (inr word) _ _ = ap k (start-begins line gap low b bs f word) ∙ begins ls ws is line gap b bs f word
        by on (inl space) _ (inr full) = ap k (start-stuck line gap low b bs f space full) ∙ stops (grid_fault_at_line ReaderStuck line)
            ∙ sym (one_reported s b bs f (grid_fault_at_line ReaderStuck line) (ap (option_map (λ kind. grid_fault_at_line kind line)) (space_stuck gap (is_in_header_line ls ws) ls ws (header_of_lines (ls ++ ws ∷ [])) (data_words (ls ++ ws ∷ [])) b whole (judge ls ws is) space (full_is full))))
        by on (inl space) (inl feed) (inl room) = ap k (start-more line gap low b bs f space room ∙ ap (λ (t : Bool). next_word_start (line + cond t 1 0) (gap + 1) (coming bs f)) feed)
            ∙ on (line + 1) (gap + 1) (ls ++ ws ∷ []) [] (fed ls ws is) (omega arith)
            ∙ sym (one_silent s (at_seen (line + 1) (gap + 1) (ls ++ ws ∷ []) [] []) b bs f (silent space room) (step_feed s b feed))
        by on (inl space) (inr blank) (inl room) = ap k (start-more line gap low b bs f space room ∙ (λ i. next_word_start (same i) (gap + 1) (coming bs f)))
            ∙ on line (gap + 1) ls ws is (omega arith)
            ∙ sym (one_silent s (at_seen line (gap + 1) ls ws []) b bs f (silent space room) (step_blank s b space blank))
          where
            same : line + cond (b == 10) 1 0 ≡ line
            same = ap (λ (t : Bool). line + cond t 1 0) blank ∙ omega arith

  -- The rest of a word: if k agrees with the places from the word's end on, k agrees from here on.
  module _ (line : ℕ) (ls : Lines) (ws : List (List ℕ)) (k : Result (List ℕ × ComingBytes) GridFault → Option GridFault) (fails : (e : GridFault) → k (Err e) ≡ Some e)
      (judge : (x : ℕ) (xs : List ℕ) → judged whole (data_words (ls ++ (ws ++ (x ∷ xs) ∷ []) ∷ [])) (x ∷ xs) ≡ true)
      (done : (x : ℕ) (xs bs : List ℕ) (f : Bool) → IsAfterWord bs f → k (Ok (x ∷ xs, coming bs f)) ≡ scan (table_of whole) (at_seen line 0 ls ws (x ∷ xs)) bs f) where
    in_word : (bs : List ℕ) (f : Bool) (x : ℕ) (xs : List ℕ) → length (x ∷ xs) ≤ 64 → k (word_continued_in_bytes line (x ∷ xs) (coming bs f)) ≡ scan (table_of whole) (at_seen line 0 ls ws (x ∷ xs)) bs f
    in_word [] false x xs short = ap k (word-ends line (x ∷ xs) short) ∙ done x xs [] false refl
    in_word [] true x xs short = ap k (word-fails line (x ∷ xs) short) ∙ fails (grid_fault_at_line Read line) ∙ sym (reads (at_seen line 0 ls ws (x ∷ xs)) (judge x xs))
    in_word (b ∷ bs) f x xs short = by (in_word bs f x (xs ++ b ∷ [])) (cases_Bool (is_space b)) (cases_lt (length (x ∷ xs)) 64)
      where
        s : Seen
        s = at_seen line 0 ls ws (x ∷ xs)

        line_now : List (List ℕ)
        line_now = ws ++ (x ∷ xs) ∷ []

        longest : 64 ≤ length (x ∷ xs) → 64 ≡ length (x ∷ xs)
        longest full = omega arith

        by : (length (x ∷ (xs ++ b ∷ [])) ≤ 64 → k (word_continued_in_bytes line (x ∷ (xs ++ b ∷ [])) (coming bs f)) ≡ scan (table_of whole) (at_seen line 0 ls ws (x ∷ (xs ++ b ∷ []))) bs f)
            → (is_space b ≡ true) ⊎ (is_space b ≡ false) → (length (x ∷ xs) < 64) ⊎ (64 ≤ length (x ∷ xs)) → k (word_continued_in_bytes line (x ∷ xs) (coming (b ∷ bs) f)) ≡ scan (table_of whole) s (b ∷ bs) f
        by on (inl space) _ = ap k (word-stops line (x ∷ xs) short b bs f space) ∙ done x xs (b ∷ bs) f space
        by on (inr word) (inr full) = ap k (word-long line (x ∷ xs) short b bs f word full) ∙ fails (grid_fault_at_line LongToken line)
            ∙ sym (one_reported s b bs f (grid_fault_at_line LongToken line) (ap (option_map (λ kind. grid_fault_at_line kind line)) (more_long 0 (is_in_header_line ls line_now) ls line_now (header_of_lines (ls ++ line_now ∷ [])) (data_words (ls ++ line_now ∷ [])) b whole x xs (judge x xs) word (longest full))))
        by on (inr word) (inl room) = ap k (word-more line (x ∷ xs) short b bs f word) ∙ on (omega (arith, length-append xs (b ∷ [])))
            ∙ sym (one_silent s (at_seen line 0 ls ws (x ∷ (xs ++ b ∷ []))) b bs f
            (ap (option_map (λ kind. grid_fault_at_line kind line)) (more_silent 0 (is_in_header_line ls line_now) ls line_now (header_of_lines (ls ++ line_now ∷ [])) (data_words (ls ++ line_now ∷ [])) b whole x xs (judge x xs) word room)) (step_word s b word))

    -- a reading agrees with the places from the first byte of a word on
    pub next_word : (gap b : ℕ) (bs : List ℕ) (f : Bool) → is_space b ≡ false → reports (table_of whole) (at_seen line gap ls ws []) (Byte b) ≡ None → k (word_continued_in_bytes line [] (coming (b ∷ bs) f)) ≡ scan (table_of whole) (at_seen line gap ls ws []) (b ∷ bs) f
    next_word gap b bs f word silent = ap k (word-more line [] (omega arith) b bs f word) ∙ in_word bs f b [] (omega arith)
        ∙ sym (one_silent (at_seen line gap ls ws []) (at_seen line 0 ls ws (b ∷ [])) b bs f silent (step_word (at_seen line gap ls ws []) b word))

  -- The blanks of a line: if k agrees from the end of the blanks on, k agrees from here on.
  module _ (line : ℕ) (ls : Lines) (ws : List (List ℕ)) (k : BlankRunEnd → Option GridFault) (fails : (e : GridFault) → k (Fault e) ≡ Some e) (judge : judged whole (data_words (ls ++ ws ∷ [])) [] ≡ true) (last : (gap : ℕ) → k Last ≡ scan (table_of whole) (at_seen line gap ls ws []) [] false)
      (begins : (gap b : ℕ) (bs : List ℕ) (f : Bool) → is_space b ≡ false → k (Word (coming (b ∷ bs) f)) ≡ scan (table_of whole) (at_seen line gap ls ws []) (b ∷ bs) f)
      (feeds : (gap b : ℕ) (bs : List ℕ) (f : Bool) → (b == 10) ≡ true → gap < 1048576 → k (Feed (gap + 1) (coming bs f)) ≡ scan (table_of whole) (at_seen line gap ls ws []) (b ∷ bs) f) where
    pub before_gap : (bs : List ℕ) (f : Bool) (gap : ℕ) → gap ≤ 1048576 → k (end_of_continued_blank_run line gap (coming bs f)) ≡ scan (table_of whole) (at_seen line gap ls ws []) bs f
    before_gap [] false gap low = ap k (gap-ends line gap low) ∙ last gap
    before_gap [] true gap low = ap k (gap-fails line gap low) ∙ fails (grid_fault_at_line Read line) ∙ sym (reads (at_seen line gap ls ws []) judge)
    before_gap (b ∷ bs) f gap low = by (before_gap bs f (gap + 1)) (cases_Bool (is_space b)) (cases_Bool (b == 10)) (cases_lt gap 1048576)
      where
        s : Seen
        s = at_seen line gap ls ws []

        full_is : 1048576 ≤ gap → gap ≡ 1048576
        full_is full = omega arith

        stuck_here : is_space b ≡ true → 1048576 ≤ gap → Some (grid_fault_at_line ReaderStuck line) ≡ scan (table_of whole) s (b ∷ bs) f
        stuck_here space full = sym (one_reported s b bs f (grid_fault_at_line ReaderStuck line) (ap (option_map (λ kind. grid_fault_at_line kind line)) (space_stuck gap (is_in_header_line ls ws) ls ws (header_of_lines (ls ++ ws ∷ [])) (data_words (ls ++ ws ∷ [])) b whole judge space (full_is full))))

        by : (gap + 1 ≤ 1048576 → k (end_of_continued_blank_run line (gap + 1) (coming bs f)) ≡ scan (table_of whole) (at_seen line (gap + 1) ls ws []) bs f)
            → (is_space b ≡ true) ⊎ (is_space b ≡ false) → ((b == 10) ≡ true) ⊎ ((b == 10) ≡ false) → (gap < 1048576) ⊎ (1048576 ≤ gap) → k (end_of_continued_blank_run line gap (coming (b ∷ bs) f)) ≡ scan (table_of whole) s (b ∷ bs) f
        by on (inr word) _ _ = ap k (gap-word line gap low b bs f word) ∙ begins gap b bs f word
        by on (inl space) (inl feed) (inl room) = ap k (gap-feed line gap low b bs f feed room) ∙ feeds gap b bs f feed room
        by on (inl space) _ (inr full) = ap k (gap-stuck line gap low b bs f space full) ∙ fails (grid_fault_at_line ReaderStuck line) ∙ stuck_here space full
        by on (inl space) (inr blank) (inl room) = ap k (gap-more line gap low b bs f space blank) ∙ on (omega arith)
            ∙ sym (one_silent s (at_seen line (gap + 1) ls ws []) b bs f
            (ap (option_map (λ kind. grid_fault_at_line kind line)) (blank_silent gap (is_in_header_line ls ws) ls ws (header_of_lines (ls ++ ws ∷ [])) (data_words (ls ++ ws ∷ [])) b whole judge space blank room)) (step_blank s b space blank))

  -- A word whose end reports no error in `table_of whole` is added to the complete words.
  module _ (line : ℕ) (ls : Lines) (ws : List (List ℕ)) (x : ℕ) (xs : List ℕ) where
    abbrev pub going : Seen
    going = at_seen line 0 ls ws (x ∷ xs)

    abbrev pub gone : Seen
    gone = at_seen line 0 ls (ws ++ (x ∷ xs) ∷ []) []

    pub settled : ((place : ByteOrTextEndOrFailedRead) → ends_token place ≡ true → reports (table_of whole) going place ≡ reports (table_of whole) gone place) → (bs : List ℕ) (f : Bool) → IsAfterWord bs f → scan (table_of whole) going bs f ≡ scan (table_of whole) gone bs f
    settled same [] true after = cc
    settled same [] false after = same End refl
    settled same (b ∷ bs) f space = by (cases_Bool (b == 10))
      where
        next : step going b ≡ step gone b → scan (table_of whole) going (b ∷ bs) f ≡ scan (table_of whole) gone (b ∷ bs) f
        next e = λ i. same (Byte b) space i or scan (table_of whole) (e i) bs f

        by : ((b == 10) ≡ true) ⊎ ((b == 10) ≡ false) → scan (table_of whole) going (b ∷ bs) f ≡ scan (table_of whole) gone (b ∷ bs) f
        by (inl feed) = next (step_feed going b feed ∙ sym (step_feed gone b feed))
        by (inr blank) = next (step_blank going b space blank ∙ sym (step_blank gone b space blank))
