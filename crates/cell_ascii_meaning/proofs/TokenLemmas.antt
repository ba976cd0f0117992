-- The next word, the end of a line's blanks and the rest of a word, after one more byte.
use Rattle.std.proofs.Common.{◌≡◌, ℕ, suc, ◌+◌, ◌-◌, ◌<◌, ◌≤◌, List, [], ◌∷◌, ◌++◌, ◌==◌, Bool, true, false, cond}
use Rattle.std.proofs.Common.{drop, take, length, refl, ap, sym, ◌∙◌, arith, if◌then◌else◌, append-nil, append_assoc}
use Rattle.std.proofs.Common.{length-append, Ok, Err, Result, not, ◌&&◌, ◌||◌}
use Rattle.std.specs.List.{prefix_len}
use Rattle.std.specs.Prelude.{nat_lt}
use Rattle.std.proofs.lemmas.List.Sums.{sum_by-append}
use Rattle.std.proofs.lemmas.Bool.Decides.{nat_tests}
use Rattle.cell_core_devices.specs.Device.{ComingBytes}
use Rattle.cell_ascii_meaning.specs.GridTokens.{NextWordStart, Begins, Ends, Stops, next_word_start}
use Rattle.cell_ascii_meaning.specs.GridTokens.{word_start_after_blanks, is_space}
use Rattle.cell_ascii_meaning.specs.GridTokens.{is_word_byte, line_feed_count, grid_fault_at_line}
use Rattle.cell_ascii_meaning.specs.GridTokens.{word_continued_in_bytes}
use Rattle.cell_ascii_meaning.specs.GridTokens.{word_or_failed_read}
use Rattle.cell_ascii_meaning.specs.Header.{BlankRunEnd, Word, Feed, Last, Fault, end_of_continued_blank_run}
use Rattle.cell_ascii_meaning.specs.Header.{end_of_blank_run_at_bytes, is_grid_blank}
use Rattle.cell_ascii_meaning.specs.declared.grid_fault.GridFault.{GridFault}
use Rattle.cell_ascii_meaning.specs.declared.grid_fault.GridKind.TheVariants.{Read, ReaderStuck, LongToken}

-- the coming bytes, followed by the end of the text or by a failed read
abbrev pub coming : List ℕ → Bool → ComingBytes
coming bs f = record { bytes = bs; fails = f }

-- The next word, after one more byte.
abbrev parts : Bool → ℕ → ℕ → List ℕ → Bool → NextWordStart
parts stuck at_fault at_start rest f =
    if stuck then Stops (grid_fault_at_line ReaderStuck at_fault) else word_start_after_blanks at_start rest f

prefix_more : (b : ℕ) (bs : List ℕ) → is_space b ≡ true
    → prefix_len is_space (b ∷ bs) ≡ suc (prefix_len is_space bs)
prefix_more b bs space = ap (λ (t : Bool). cond t (1 + prefix_len is_space bs) 0) space ∙ omega arith

less_more : (run : ℕ) → run < 1048576 → 1048576 - run ≡ suc (1048576 - (run + 1))
less_more run room = omega arith

newlines_more : (line b : ℕ) (bs : List ℕ) → line + line_feed_count (b ∷ bs)
    ≡ line + cond (b == 10) 1 0 + line_feed_count bs
newlines_more line b bs = omega (arith, sum_by-append (λ (x : ℕ). cond (x == 10) 1 0) (b ∷ []) bs)

pub no_feed : (b : ℕ) → is_space b ≡ false → (b == 10) ≡ false
no_feed b e = by (b == 32) (b == 9) (b == 13) (b == 10) e
  where
    by : (s t r f : Bool) → ((s || t) || (r || f)) ≡ false → f ≡ false
    by true t r f e = cc
    by false true r f e = cc
    by false false true f e = cc
    by false false false f e = e

pub feed_space : (b : ℕ) → (b == 10) ≡ true → is_space b ≡ true
feed_space b e = by (b == 32) (b == 9) (b == 13) (b == 10) e
  where
    by : (s t r f : Bool) → f ≡ true → ((s || t) || (r || f)) ≡ true
    by true t r f e = refl
    by false true r f e = refl
    by false false true f e = refl
    by false false false f e = e

module _ (line run : ℕ) (low : run ≤ 1048576) where
  pub start-ends : next_word_start line run (coming [] false) ≡ Ends line
  unfolding next_word_start
  start-ends = grind (arith, nat_tests)

  pub start-fails : next_word_start line run (coming [] true) ≡ Stops (grid_fault_at_line Read line)
  unfolding next_word_start
  start-fails = grind (arith, nat_tests)

  pub start-begins : (b : ℕ) (bs : List ℕ) (f : Bool) → is_space b ≡ false
      → next_word_start line run (coming (b ∷ bs) f) ≡ Begins line (coming (b ∷ bs) f)
  unfolding next_word_start
  start-begins b bs f word = grind (arith, nat_tests)

  pub start-stuck : (b : ℕ) (bs : List ℕ) (f : Bool) → is_space b ≡ true → 1048576 ≤ run
      → next_word_start line run (coming (b ∷ bs) f) ≡ Stops (grid_fault_at_line ReaderStuck line)
  unfolding next_word_start
  start-stuck b bs f space full = grind (arith, nat_tests)

  pub start-more : (b : ℕ) (bs : List ℕ) (f : Bool) → is_space b ≡ true → run < 1048576
      → next_word_start line run (coming (b ∷ bs) f) ≡ next_word_start (line + cond (b == 10) 1 0) (run + 1)
      (coming bs f)
  unfolding next_word_start
  start-more b bs f space room =
      let gap = prefix_len is_space bs in
      let longer : prefix_len is_space (b ∷ bs) ≡ suc gap = prefix_more b bs space in
      let tests : nat_lt 1048576 (run + suc gap)
      ≡ nat_lt 1048576 (run + 1 + gap) = ap (nat_lt 1048576) (omega arith) in
      let stuck : line + line_feed_count (take (1048576 - run) (b ∷ bs))
      ≡ line + cond (b == 10) 1 0 + line_feed_count (take (1048576 - (run + 1)) bs) =
      rw (less_more run room) (newlines_more line b (take (1048576 - (run + 1)) bs)) in
      ap (λ (n : ℕ). parts (nat_lt 1048576 (run + n)) (line + line_feed_count (take (1048576 - run) (b ∷ bs)))
      (line + line_feed_count (take n (b ∷ bs))) (drop n (b ∷ bs)) f) longer
      ∙ (λ i. parts (tests i) (stuck i) (newlines_more line b (take gap bs) i) (drop gap bs) f)

  -- skipping a blank or line feed does not change the next word, and a line feed adds 1 to the line
  pub start-next : (b m : ℕ) (bs : List ℕ) (f : Bool) → is_space b ≡ true → run < 1048576
      → line + cond (b == 10) 1 0 ≡ m
      → next_word_start line run (coming (b ∷ bs) f) ≡ next_word_start m (run + 1) (coming bs f)
  start-next b m bs f space room e = start-more b bs f space room
      ∙ ap (λ (l : ℕ). next_word_start l (run + 1) (coming bs f)) e

  -- The end of a line's blanks, after one more byte.
  abbrev gap_parts : Bool → ℕ → List ℕ → Bool → BlankRunEnd
  gap_parts stuck at rest f = if stuck then Fault (grid_fault_at_line ReaderStuck line) else end_of_blank_run_at_bytes
      line at
      rest f

  pub gap-ends : end_of_continued_blank_run line run (coming [] false) ≡ Last
  unfolding end_of_continued_blank_run
  gap-ends = grind (arith, nat_tests)

  pub gap-fails : end_of_continued_blank_run line run (coming [] true) ≡ Fault (grid_fault_at_line Read line)
  unfolding end_of_continued_blank_run
  gap-fails = grind (arith, nat_tests)

  pub gap-word : (b : ℕ) (bs : List ℕ) (f : Bool) → is_space b ≡ false
      → end_of_continued_blank_run line run (coming (b ∷ bs) f) ≡ Word (coming (b ∷ bs) f)
  unfolding end_of_continued_blank_run
  gap-word b bs f word = let e = no_feed b word in grind (arith, nat_tests)

  pub gap-feed : (b : ℕ) (bs : List ℕ) (f : Bool) → (b == 10) ≡ true → run < 1048576
      → end_of_continued_blank_run line run (coming (b ∷ bs) f) ≡ Feed (run + 1) (coming bs f)
  unfolding end_of_continued_blank_run
  gap-feed b bs f feed room = let e = feed_space b feed in grind (arith, nat_tests)

  full_gap : (b : ℕ) (bs : List ℕ) (f feed : Bool) → is_space b ≡ true → (b == 10) ≡ feed → 1048576 ≤ run
      → end_of_continued_blank_run line run (coming (b ∷ bs) f) ≡ Fault (grid_fault_at_line ReaderStuck line)
  unfolding end_of_continued_blank_run
  full_gap b bs f true space e full = grind (arith, nat_tests)
  full_gap b bs f false space e full = grind (arith, nat_tests)

  pub gap-stuck : (b : ℕ) (bs : List ℕ) (f : Bool) → is_space b ≡ true → 1048576 ≤ run
      → end_of_continued_blank_run line run (coming (b ∷ bs) f) ≡ Fault (grid_fault_at_line ReaderStuck line)
  gap-stuck b bs f space full = full_gap b bs f (b == 10) space refl full

  pub gap-more : (b : ℕ) (bs : List ℕ) (f : Bool) → is_space b ≡ true → (b == 10) ≡ false
      → end_of_continued_blank_run line run (coming (b ∷ bs) f)
      ≡ end_of_continued_blank_run line (run + 1) (coming bs f)
  unfolding end_of_continued_blank_run
  gap-more b bs f space blank =
      let gap = prefix_len is_grid_blank bs in
      let longer : prefix_len is_grid_blank (b ∷ bs) ≡ suc gap = (λ i. cond (space i && not (blank i)) (1 + gap) 0)
      ∙ omega arith in
      let count : run + suc gap ≡ run + 1 + gap = omega arith in
      ap (λ (n : ℕ). gap_parts (nat_lt 1048576 (run + n)) (run + n) (drop n (b ∷ bs)) f) longer
      ∙ (λ i. gap_parts (nat_lt 1048576 (count i)) (count i) (drop gap bs) f)

-- The rest of a word, after one more byte.
module _ (line : ℕ) (front : List ℕ) (short : length front ≤ 64) where
  abbrev word_parts : Bool → List ℕ → List ℕ → Bool → Result (List ℕ × ComingBytes) GridFault
  word_parts long word rest f = if long then Err (grid_fault_at_line LongToken line) else word_or_failed_read line
      word rest f

  pub word-ends : word_continued_in_bytes line front (coming [] false) ≡ Ok (front, coming [] false)
  unfolding word_continued_in_bytes
  word-ends = grind (arith, nat_tests, append-nil)

  pub word-fails : word_continued_in_bytes line front (coming [] true) ≡ Err (grid_fault_at_line Read line)
  unfolding word_continued_in_bytes
  word-fails = grind (arith, nat_tests)

  pub word-stops : (b : ℕ) (bs : List ℕ) (f : Bool) → is_space b ≡ true
      → word_continued_in_bytes line front (coming (b ∷ bs) f) ≡ Ok (front, coming (b ∷ bs) f)
  unfolding word_continued_in_bytes
  word-stops b bs f space = grind (arith, nat_tests, append-nil)

  pub word-long : (b : ℕ) (bs : List ℕ) (f : Bool) → is_space b ≡ false → 64 ≤ length front
      → word_continued_in_bytes line front (coming (b ∷ bs) f) ≡ Err (grid_fault_at_line LongToken line)
  unfolding word_continued_in_bytes
  word-long b bs f word full = grind (arith, nat_tests)

  pub word-more : (b : ℕ) (bs : List ℕ) (f : Bool) → is_space b ≡ false
      → word_continued_in_bytes line front (coming (b ∷ bs) f) ≡ word_continued_in_bytes line (front ++ b
      ∷ []) (coming bs f)
  unfolding word_continued_in_bytes
  word-more b bs f word =
      let more = prefix_len is_word_byte bs in
      let longer : prefix_len is_word_byte (b ∷ bs) ≡ suc more = ap (λ (t : Bool). cond (not t) (1 + more) 0) word
      ∙ omega arith in
      let count : length front + suc more
      ≡ length (front ++ b ∷ []) + more = omega (arith, length-append front (b ∷ [])) in
      let whole : front ++ (b ∷ take more bs)
      ≡ (front ++ b ∷ []) ++ take more bs = sym (append_assoc front (b ∷ []) (take more bs)) in
      ap (λ (n : ℕ). word_parts (nat_lt 64 (length front + n)) (front ++ take n (b ∷ bs)) (drop n (b ∷ bs)) f) longer
      ∙ (λ i. word_parts (nat_lt 64 (count i)) (whole i) (drop more bs) f)
