-- The words of each line of a text, byte by byte, compared with the steps of the reading.
use Rattle.std.proofs.Common.{◌≡◌, ℕ, ◌+◌, ◌<◌, ◌≤◌, List, [], ◌∷◌, ◌++◌, Option, Some, None, ◌==◌, Bool, true, false, cond, length, length-append, refl, ap, sym, ◌∙◌, arith, if◌then◌else◌, Result, Ok, Err, ◌⊎◌, inl, inr}
use Rattle.std.specs.Option.{option_map, option_and_then}
use Rattle.std.proofs.lemmas.Bool.{cases_Bool, cases_lt}
use Rattle.std.proofs.lemmas.Bool.Decides.{nat_tests}
use Rattle.std.specs.Prelude.{nat_lt}
use Rattle.cell_core_devices.specs.Device.{ComingBytes}
use Rattle.cell_ascii_meaning.proofs.TokenLemmas.{coming, gap-ends, gap-fails, gap-feed, gap-more, gap-stuck, gap-word}
use Rattle.cell_ascii_meaning.proofs.TokenLemmas.{start-begins, start-ends, start-fails, start-more, start-stuck}
use Rattle.cell_ascii_meaning.proofs.TokenLemmas.{word-ends, word-fails, word-long, word-more, word-stops}
use Rattle.cell_ascii_meaning.specs.GridTokens.{NextWordStart, Begins, Ends, Stops, next_word_start, is_space}
use Rattle.cell_ascii_meaning.specs.GridTokens.{grid_fault_at_line, word_continued_in_bytes}
use Rattle.cell_ascii_meaning.specs.Header.{BlankRunEnd, Word, Feed, Last, Fault, end_of_continued_blank_run}
use Rattle.cell_ascii_meaning.specs.declared.grid_fault.GridKind.TheVariants.{Read, ReaderStuck, LongToken}
use Rattle.cell_ascii_meaning.specs.declared.grid_fault.GridFault.{GridFault}

-- The words of each line.
abbrev pub Lines : Type 0
Lines = List (List (List ℕ))

abbrev pub first_line : Lines → List (List ℕ)
first_line [] = []
first_line (l ∷ ls) = l

abbrev pub rest_lines : Lines → Lines
rest_lines [] = []
rest_lines (l ∷ ls) = ls

-- a word added at the start of the first line
abbrev pub put : List ℕ → Lines → Lines
put w ls = (w ∷ first_line ls) ∷ rest_lines ls

abbrev pub put_token : List ℕ → Lines → Lines
put_token [] ls = ls
put_token (x ∷ xs) ls = put (x ∷ xs) ls

abbrev pub opening : Bool → Lines → Lines
opening true ls = [] ∷ ls
opening false ls = ls

-- the words of each line of the coming bytes, after `run` spaces or the start of a word;
-- none if the text exceeds the limits or a read fails
abbrev pub lex : ℕ → List ℕ → List ℕ → Bool → Option Lines
lex run token [] true = None
lex run token [] false = Some (put_token token ([] ∷ []))
lex run token (b ∷ bs) f =
    if is_space b then (if nat_lt run 1048576 then option_map (λ ls. put_token token (opening (b == 10) ls)) (lex (run + 1) [] bs f) else None)
    else (if nat_lt (length token) 64 then lex 0 (token ++ b ∷ []) bs f else None)

pub lex-space : (run : ℕ) (token : List ℕ) (b : ℕ) (bs : List ℕ) (f : Bool) → is_space b ≡ true → run < 1048576 → lex run token (b ∷ bs) f ≡ option_map (λ ls. put_token token (opening (b == 10) ls)) (lex (run + 1) [] bs f)
lex-space run token b bs f space room = let t : nat_lt run 1048576 ≡ true = grind (arith, nat_tests) in rw (space, t)

pub lex-stuck : (run : ℕ) (token : List ℕ) (b : ℕ) (bs : List ℕ) (f : Bool) → is_space b ≡ true → 1048576 ≤ run → lex run token (b ∷ bs) f ≡ None
lex-stuck run token b bs f space full = let t : nat_lt run 1048576 ≡ false = grind (arith, nat_tests) in rw (space, t)

pub lex-word : (run : ℕ) (token : List ℕ) (b : ℕ) (bs : List ℕ) (f : Bool) → is_space b ≡ false → length token < 64 → lex run token (b ∷ bs) f ≡ lex 0 (token ++ b ∷ []) bs f
lex-word run token b bs f word room = let t : nat_lt (length token) 64 ≡ true = grind (arith, nat_tests) in rw (word, t)

pub lex-long : (run : ℕ) (token : List ℕ) (b : ℕ) (bs : List ℕ) (f : Bool) → is_space b ≡ false → 64 ≤ length token → lex run token (b ∷ bs) f ≡ None
lex-long run token b bs f word full = let t : nat_lt (length token) 64 ≡ false = grind (arith, nat_tests) in rw (word, t)

-- before a word, the length of the run makes no difference
lex-begins : (run : ℕ) (b : ℕ) (bs : List ℕ) (f : Bool) → is_space b ≡ false → lex run [] (b ∷ bs) f ≡ lex 0 [] (b ∷ bs) f
lex-begins run b bs f word = lex-word run [] b bs f word (omega arith) ∙ sym (lex-word 0 [] b bs f word (omega arith))

module _ {Y : Type 0} (G : Lines → Option Y) where
  then_skipped : (skips : (ls : Lines) → G ([] ∷ ls) ≡ G ls) (t : Bool) (o : Option Lines) → option_and_then G (option_map (opening t) o) ≡ option_and_then G o
  then_skipped skips t None = refl
  then_skipped skips true (Some ls) = skips ls
  then_skipped skips false (Some ls) = refl

  then_fed : (o : Option Lines) → option_and_then G (option_map (opening true) o) ≡ option_and_then (λ ls. G ([] ∷ ls)) o
  then_fed None = refl
  then_fed (Some ls) = refl

  then_same : (o : Option Lines) → option_and_then G (option_map (opening false) o) ≡ option_and_then G o
  then_same None = refl
  then_same (Some ls) = refl

  then_put : (x : ℕ) (xs : List ℕ) (t : Bool) (o : Option Lines)
      → option_and_then (λ ls. G (put (x ∷ xs) ls)) (option_map (opening t) o) ≡ option_and_then G (option_map (λ ls. put_token (x ∷ xs) (opening t ls)) o)
  then_put x xs t None = refl
  then_put x xs t (Some ls) = refl

  -- Blanks before the next word: if k agrees with the words from the next word on, k agrees from here on.
  module _ (skips : (ls : Lines) → G ([] ∷ ls) ≡ G ls) (k : NextWordStart → Option Y) (stops : (e : GridFault) → k (Stops e) ≡ None) (ends : (line : ℕ) → k (Ends line) ≡ G [])
      (begins : (line b : ℕ) (bs : List ℕ) (f : Bool) → is_space b ≡ false → k (Begins line (coming (b ∷ bs) f)) ≡ option_and_then G (lex 0 [] (b ∷ bs) f)) where
    pub before_word : (bs : List ℕ) (f : Bool) (line run : ℕ) → run ≤ 1048576 → k (next_word_start line run (coming bs f)) ≡ option_and_then G (lex run [] bs f)
    before_word [] false line run low = ap k (start-ends line run low) ∙ ends line ∙ sym (skips [])
    before_word [] true line run low = ap k (start-fails line run low) ∙ stops (grid_fault_at_line Read line)
    before_word (b ∷ bs) f line run low = by (before_word bs f (line + cond (b == 10) 1 0) (run + 1)) (cases_Bool (is_space b)) (cases_lt run 1048576)
      where
        by : (run + 1 ≤ 1048576 → k (next_word_start (line + cond (b == 10) 1 0) (run + 1) (coming bs f)) ≡ option_and_then G (lex (run + 1) [] bs f))
            → (is_space b ≡ true) ⊎ (is_space b ≡ false) → (run < 1048576) ⊎ (1048576 ≤ run) → k (next_word_start line run (coming (b ∷ bs) f)) ≡ option_and_then G (lex run [] (b ∷ bs) f)
        by on (inr word) _ = ap k (start-begins line run low b bs f word) ∙ begins line b bs f word ∙ ap (option_and_then G) (sym (lex-begins run b bs f word))
        by on (inl space) (inr full) = ap k (start-stuck line run low b bs f space full) ∙ stops (grid_fault_at_line ReaderStuck line) ∙ ap (option_and_then G) (sym (lex-stuck run [] b bs f space full))
        by on (inl space) (inl room) = ap k (start-more line run low b bs f space room) ∙ on (omega arith)
            ∙ sym (ap (option_and_then G) (lex-space run [] b bs f space room) ∙ then_skipped skips (b == 10) (lex (run + 1) [] bs f))

  -- The rest of a word: if k agrees from the word's end on, k agrees from here on.
  module _ (line : ℕ) (k : Result (List ℕ × ComingBytes) GridFault → Option Y) (fails : (e : GridFault)
      → k (Err e) ≡ None)
      (done : (x : ℕ) (xs bs : List ℕ) (f : Bool) → k (Ok (x ∷ xs, coming bs f)) ≡ option_and_then (λ ls. G (put (x ∷ xs) ls)) (lex 0 [] bs f)) where
    in_word : (bs : List ℕ) (f : Bool) (x : ℕ) (xs : List ℕ) → length (x ∷ xs) ≤ 64 → k (word_continued_in_bytes line (x ∷ xs) (coming bs f)) ≡ option_and_then G (lex 0 (x ∷ xs) bs f)
    in_word [] false x xs short = ap k (word-ends line (x ∷ xs) short) ∙ done x xs [] false
    in_word [] true x xs short = ap k (word-fails line (x ∷ xs) short) ∙ fails (grid_fault_at_line Read line)
    in_word (b ∷ bs) f x xs short = by (in_word bs f x (xs ++ b ∷ [])) (cases_Bool (is_space b)) (cases_lt (length (x ∷ xs)) 64)
      where
        by : (length (x ∷ (xs ++ b ∷ [])) ≤ 64 → k (word_continued_in_bytes line (x ∷ (xs ++ b ∷ [])) (coming bs f)) ≡ option_and_then G (lex 0 (x ∷ (xs ++ b ∷ [])) bs f))
            → (is_space b ≡ true) ⊎ (is_space b ≡ false) → (length (x ∷ xs) < 64) ⊎ (64 ≤ length (x ∷ xs)) → k (word_continued_in_bytes line (x ∷ xs) (coming (b ∷ bs) f)) ≡ option_and_then G (lex 0 (x ∷ xs) (b ∷ bs) f)
        by on (inl space) _ = ap k (word-stops line (x ∷ xs) short b bs f space) ∙ done x xs (b ∷ bs) f
            ∙ ap (option_and_then (λ ls. G (put (x ∷ xs) ls))) (lex-space 0 [] b bs f space (omega arith)) ∙ then_put x xs (b == 10) (lex 1 [] bs f)
            ∙ sym (ap (option_and_then G) (lex-space 0 (x ∷ xs) b bs f space (omega arith)))
        by on (inr word) (inr full) = ap k (word-long line (x ∷ xs) short b bs f word full) ∙ fails (grid_fault_at_line LongToken line) ∙ ap (option_and_then G) (sym (lex-long 0 (x ∷ xs) b bs f word full))
        by on (inr word) (inl room) = ap k (word-more line (x ∷ xs) short b bs f word) ∙ on (omega (arith, length-append xs (b ∷ []))) ∙ ap (option_and_then G) (sym (lex-word 0 (x ∷ xs) b bs f word room))

    -- a reading agrees with the words from the first byte of a word on
    pub next_word : (b : ℕ) (bs : List ℕ) (f : Bool) → is_space b ≡ false → k (word_continued_in_bytes line [] (coming (b ∷ bs) f)) ≡ option_and_then G (lex 0 [] (b ∷ bs) f)
    next_word b bs f word = ap k (word-more line [] (omega arith) b bs f word) ∙ in_word bs f b [] (omega arith) ∙ ap (option_and_then G) (sym (lex-word 0 [] b bs f word (omega arith)))

  -- The blanks of a line: if k agrees from the end of the blanks on, k agrees from here on.
  module _ (line : ℕ) (k : BlankRunEnd → Option Y) (fails : (e : GridFault)
      → k (Fault e) ≡ None) (last : k Last ≡ G ([] ∷ []))
      (begins : (b : ℕ) (bs : List ℕ) (f : Bool) → is_space b ≡ false → k (Word (coming (b ∷ bs) f)) ≡ option_and_then G (lex 0 [] (b ∷ bs) f))
      (feeds : (run : ℕ) (bs : List ℕ) (f : Bool) → run ≤ 1048576 → k (Feed run (coming bs f)) ≡ option_and_then (λ ls. G ([] ∷ ls)) (lex run [] bs f)) where
    pub before_gap : (bs : List ℕ) (f : Bool) (run : ℕ) → run ≤ 1048576 → k (end_of_continued_blank_run line run (coming bs f)) ≡ option_and_then G (lex run [] bs f)
    before_gap [] false run low = ap k (gap-ends line run low) ∙ last
    before_gap [] true run low = ap k (gap-fails line run low) ∙ fails (grid_fault_at_line Read line)
    before_gap (b ∷ bs) f run low = by (before_gap bs f (run + 1)) (cases_Bool (is_space b)) (cases_Bool (b == 10)) (cases_lt run 1048576)
      where
        by : (run + 1 ≤ 1048576 → k (end_of_continued_blank_run line (run + 1) (coming bs f))
            ≡ option_and_then G (lex (run + 1) [] bs f))
            → (is_space b ≡ true) ⊎ (is_space b ≡ false) → ((b == 10) ≡ true) ⊎ ((b == 10) ≡ false) → (run < 1048576) ⊎ (1048576 ≤ run)
            → k (end_of_continued_blank_run line run (coming (b ∷ bs) f)) ≡ option_and_then G (lex run [] (b ∷ bs) f)
        by on (inr word) _ _ = ap k (gap-word line run low b bs f word) ∙ begins b bs f word ∙ ap (option_and_then G) (sym (lex-begins run b bs f word))
        by on (inl space) (inl feed) (inl room) = ap k (gap-feed line run low b bs f feed room) ∙ feeds (run + 1) bs f (omega arith)
            ∙ sym (ap (option_and_then G) (lex-space run [] b bs f space room) ∙ ap (λ (t : Bool). option_and_then G (option_map (opening t) (lex (run + 1) [] bs f))) feed ∙ then_fed (lex (run + 1) [] bs f))
        by on (inl space) (inr blank) (inl room) = ap k (gap-more line run low b bs f space blank) ∙ on (omega arith)
            ∙ sym (ap (option_and_then G) (lex-space run [] b bs f space room) ∙ ap (λ (t : Bool). option_and_then G (option_map (opening t) (lex (run + 1) [] bs f))) blank ∙ then_same (lex (run + 1) [] bs f))
        by on (inl space) _ (inr full) = ap k (gap-stuck line run low b bs f space full) ∙ fails (grid_fault_at_line ReaderStuck line) ∙ ap (option_and_then G) (sym (lex-stuck run [] b bs f space full))
