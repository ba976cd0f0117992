-- Steps over blanks and line feeds, and what they show of the next word, the rest of the line, the line and the run.
use Rattle.std.proofs.Common.{◌≡◌, ℕ, ◌+◌, ◌-◌, ◌<◌, ◌≤◌, ◌==◌, List, [], ◌∷◌, Option, Bool, true, false, Result, Ok}
use Rattle.std.proofs.Common.{Err, nat_lt, refl, ap, arith}
use Rattle.std.proofs.lemmas.Bool.Decides.{nat_tests}
use Rattle.cell_core_devices.specs.Device.{ComingBytes}
use Rattle.cell_ascii_meaning.specs.GridTokens.{NextWordStart, is_space, next_word_start, grid_fault_at_line}
use Rattle.cell_ascii_meaning.specs.declared.grid_fault.GridKind.TheVariants.{Read}
use Rattle.cell_ascii_meaning.specs.Header.{BlankRunEnd, end_of_continued_blank_run}
use Rattle.cell_ascii_meaning.specs.declared.grid_fault.GridFault.{GridFault}
use Rattle.cell_ascii_meaning.proofs.TokenLemmas.{coming, gap-ends, gap-fails, gap-feed, gap-more, gap-stuck, gap-word}
use Rattle.cell_ascii_meaning.proofs.TokenLemmas.{start-begins, start-ends, start-fails, start-next, start-stuck}
use Rattle.cell_ascii_reading.specs.Ahead.{bytes_to_come_for_content, ScanResultsBeforeAndAfterAgree}
use Rattle.cell_ascii_reading.specs.Ahead.{EqualBeforeAndAfterReads}
use Rattle.cell_ascii_reading.specs.Scan.{ScannerState}
use Rattle.cell_ascii_reading.proofs.MapLemmas.{chain, map_same, then_map}
use Rattle.cell_ascii_reading.specs.parts.ScanSteps.{scan_step_and_rest_at_byte, scan_step_and_rest_after_blanks, IsScannerAfterStep, line_number_after_step, blank_run_length_after_step, word_start_after_step, blank_run_end_after_step}
use Rattle.cell_ascii_reading.specs.declared.scanner.ScanStepResult.{ScanStepResult}
use Rattle.cell_ascii_reading.specs.declared.scanner.ScanStepResult.TheVariants.{Blank, Feed, Word, End}

pub has_room : (run : ℕ) → run < 1048576 → nat_lt run 1048576 ≡ true
has_room run low = grind (arith, nat_tests)

pub no_room : (run : ℕ) → 1048576 ≤ run → nat_lt run 1048576 ≡ false
no_room run full = grind (arith, nat_tests)

room_of : (run : ℕ) → nat_lt run 1048576 ≡ true → run < 1048576
room_of run e = grind (arith, nat_tests)

full_of : (run : ℕ) → nat_lt run 1048576 ≡ false → 1048576 ≤ run
full_of run e = grind (arith, nat_tests)

-- a step at a byte, given whether it is a blank, whether the run has room and whether it is a line feed
pub step-byte : (line run b : ℕ) (bs : List ℕ) (f : Bool) {space room feed : Bool}
    → is_space b ≡ space → nat_lt run 1048576 ≡ room → (b == 10) ≡ feed
    → scan_step_and_rest_after_blanks line run (coming (b ∷ bs) f)
    ≡ scan_step_and_rest_at_byte space room feed line (coming (b ∷ bs) f) (coming bs f)
unfolding scan_step_and_rest_after_blanks
step-byte line run b bs f p q r = λ i. scan_step_and_rest_at_byte (p i) (q i) (r i) line (coming (b ∷ bs) f)
    (coming bs f)

pub step-ends : (line run : ℕ) → scan_step_and_rest_after_blanks line run (coming [] false) ≡ (Ok End, coming [] false)
unfolding scan_step_and_rest_after_blanks
step-ends line run = refl

pub step-fails : (line run : ℕ) → scan_step_and_rest_after_blanks line run (coming [] true)
    ≡ (Err (grid_fault_at_line Read line), coming [] true)
unfolding scan_step_and_rest_after_blanks
step-fails line run = refl

-- functions of results that agree before and after a step also agree
agrees_after : {A B : Type 0} (F K : ComingBytes → A) (H : ComingBytes → B) (G : A → B)
    → ((c : ComingBytes) → H c ≡ G (F c))
    → (x y : ComingBytes → Option ComingBytes) → EqualBeforeAndAfterReads F x K y
    → EqualBeforeAndAfterReads H x (λ c. G (K c)) y
agrees_after F K H G same x y e = chain _ _ _ _ _ _ (map_same H (λ c. G (F c)) x same) (then_map G F K x y e)

-- the next word after a step, and the rest of the line after it
abbrev start_after : ℕ → ℕ → Result ScanStepResult GridFault × ComingBytes → NextWordStart
start_after line run p = word_start_after_step p.0 (line_number_after_step p.0 line)
    (blank_run_length_after_step p.0 run) p.1

abbrev gap_after : ℕ → ℕ → Result ScanStepResult GridFault × ComingBytes → BlankRunEnd
gap_after line run p = blank_run_end_after_step p.0 (line_number_after_step p.0 line)
    (blank_run_length_after_step p.0 run) p.1

module _ (line run : ℕ) (low : run ≤ 1048576) where
  module _ (b : ℕ) (bs : List ℕ) (f : Bool) where
    start_byte : (space room feed : Bool) → is_space b ≡ space → nat_lt run 1048576 ≡ room → (b == 10) ≡ feed
        → next_word_start line run (coming (b ∷ bs) f)
        ≡ start_after line run (scan_step_and_rest_at_byte space room feed line (coming (b ∷ bs) f) (coming bs f))
    start_byte false room feed p q r = start-begins line run low b bs f p
    start_byte true false feed p q r = start-stuck line run low b bs f p (full_of run q)
    start_byte true true true p q r = start-next line run low b (line + 1) bs f p (room_of run q) (rw r refl)
    start_byte true true false p q r = start-next line run low b line bs f p (room_of run q) (rw r (omega arith))

    gap_byte : (space room feed : Bool) → is_space b ≡ space → nat_lt run 1048576 ≡ room → (b == 10) ≡ feed
        → end_of_continued_blank_run line run (coming (b ∷ bs) f)
        ≡ gap_after line run (scan_step_and_rest_at_byte space room feed line (coming (b ∷ bs) f) (coming bs f))
    gap_byte false room feed p q r = gap-word line run low b bs f p
    gap_byte true false feed p q r = gap-stuck line run low b bs f p (full_of run q)
    gap_byte true true true p q r = gap-feed line run low b bs f r (room_of run q)
    gap_byte true true false p q r = gap-more line run low b bs f p r

  start_is : (bs : List ℕ) (f : Bool) → next_word_start line run (coming bs f)
      ≡ start_after line run (scan_step_and_rest_after_blanks line run (coming bs f))
  unfolding scan_step_and_rest_after_blanks
  start_is [] false = start-ends line run low
  start_is [] true = start-fails line run low
  start_is (b ∷ bs) f = start_byte b bs f (is_space b) (nat_lt run 1048576) (b == 10) refl refl refl

  gap_is : (bs : List ℕ) (f : Bool) → end_of_continued_blank_run line run (coming bs f)
      ≡ gap_after line run (scan_step_and_rest_after_blanks line run (coming bs f))
  unfolding scan_step_and_rest_after_blanks
  gap_is [] false = gap-ends line run low
  gap_is [] true = gap-fails line run low
  gap_is (b ∷ bs) f = gap_byte b bs f (is_space b) (nat_lt run 1048576) (b == 10) refl refl refl

lines_by : (r : Result ScanStepResult GridFault) (line run : ℕ) → line_number_after_step r line + run ≤ line
    + blank_run_length_after_step r run
lines_by (Ok Blank) line run = omega arith
lines_by (Ok Feed) line run = omega arith
lines_by (Ok Word) line run = omega arith
lines_by (Ok End) line run = omega arith
lines_by (Err f) line run = omega arith

-- a step from one place to another gives the same next word, line end, line and run
pub record Reports (r : Result ScanStepResult GridFault) (s t : ScannerState) : Type 0 where
  pub starts : ScanResultsBeforeAndAfterAgree (next_word_start s.line s.run) s.ahead
      (word_start_after_step r t.line t.run) t.ahead
  pub gap : ScanResultsBeforeAndAfterAgree (end_of_continued_blank_run s.line s.run) s.ahead
      (blank_run_end_after_step r t.line t.run) t.ahead
  pub line : t.line ≡ line_number_after_step r s.line
  pub run : t.run ≡ blank_run_length_after_step r s.run
  pub lines : t.line + s.run ≤ s.line + t.run
  pub word : t.word ≡ s.word

pub step_reports : {r : Result ScanStepResult GridFault} {s t : ScannerState} → s.run ≤ 1048576
    → IsScannerAfterStep r s t
    → Reports r s t
step_reports {r = r} {s = s} {t = t} low step =
    let line : t.line ≡ line_number_after_step r s.line = ap (λ (v : ScannerState). v.line) step.scan in
    let run : t.run ≡ blank_run_length_after_step r s.run = ap (λ (v : ScannerState). v.run) step.scan in
    record {
      starts = rw (line, run) (agrees_after (scan_step_and_rest_after_blanks s.line s.run) (λ c. (r, c)) _
          (start_after s.line s.run)
          (λ c. start_is s.line s.run low c.bytes c.fails) (bytes_to_come_for_content s.ahead)
          (bytes_to_come_for_content t.ahead) step.value);
      gap = rw (line, run) (agrees_after (scan_step_and_rest_after_blanks s.line s.run) (λ c. (r, c)) _
          (gap_after s.line s.run)
          (λ c. gap_is s.line s.run low c.bytes c.fails) (bytes_to_come_for_content s.ahead)
          (bytes_to_come_for_content t.ahead) step.value);
      line = line;
      run = run;
      lines = rw (line, run) (lines_by r s.line s.run);
      word = ap (λ (v : ScannerState). v.word) step.scan;
    }

-- the line number stays below its limit after `more` more bytes
pub room_left : (old run line more most : ℕ) → line + run ≤ old + more → old + 1048576 < most → line + 1048576 < most + more
room_left old run line more most lines room = omega arith

pub room_still : (a b line more : ℕ) → line ≡ a → a + 1048576 < b → line + 1048576 < b + more
room_still a b line more same room = omega arith

pub smaller : (run more : ℕ) → more ≡ run + 1 → more ≤ 1048576 → 1048576 - more < 1048576 - run
smaller run more next low = omega arith

pub lines_still : (old run line some next more : ℕ)
    → line + run ≤ old + some → next + some ≤ line + more → next + run ≤ old + more
lines_still old run line some next more lines step = omega arith

pub lines_end : (old run line some next more : ℕ)
    → line + run ≤ old + some → next + some ≤ line + more → more ≤ 1048576 → next ≤ old + 1048576
lines_end old run line some next more lines step low = omega arith

pub further_still : (old run more : ℕ) → old ≤ run → more ≡ run + 1 → old ≤ more
further_still old run more low next = omega arith

pub further_same : (old run more : ℕ) → old ≤ run → more ≡ run → old ≤ more
further_same old run more low same = omega arith

pub same_line : (a : ℕ) → a ≤ a
same_line a = omega arith
