-- Steps over blanks and line feeds: their results, and their effect on the next word and the line.
use Rattle.std.specs.Prelude.{ℕ, ◌≡◌, ◌≤◌, ◌+◌, Bool, true, false, ◌==◌, nat_lt, List, [], ◌∷◌, Result, Ok, Err}
use Rattle.cell_core_devices.specs.Device.{ComingBytes}
use Rattle.cell_ascii_meaning.specs.GridTokens.{NextWordStart, Begins, Ends, Stops, next_word_start, grid_fault_at_line}
use Rattle.cell_ascii_meaning.specs.GridTokens.{is_space}
use Rattle.cell_ascii_meaning.specs.Header.{BlankRunEnd, Word, Feed, Last, Fault, end_of_continued_blank_run}
use Rattle.cell_ascii_meaning.specs.declared.grid_fault.GridFault.{GridFault}
use Rattle.cell_ascii_meaning.specs.declared.grid_fault.GridKind.TheVariants.{Read, ReaderStuck}
use Rattle.cell_ascii_reading.specs.Ahead.{BytesAhead, bytes_to_come_for_content, IsSourceAtEndOrFailed}
use Rattle.cell_ascii_reading.specs.Ahead.{ScanResultsBeforeAndAfterAgree}
use Rattle.cell_ascii_reading.specs.Scan.{ScannerState}
use Rattle.cell_ascii_reading.specs.declared.scanner.ScanStepResult.{ScanStepResult}
use Rattle.cell_ascii_reading.specs.declared.scanner.ScanStepResult.TheVariants.{Blank, Feed as FeedStep, Word as WordStep, End}

-- the result of a step at a byte, given whether it is a blank or line feed, whether the run may grow, and whether it is
-- a line feed
abbrev pub scan_step_and_rest_at_byte : Bool → Bool → Bool → ℕ → ComingBytes → ComingBytes
    → Result ScanStepResult GridFault
    × ComingBytes
scan_step_and_rest_at_byte false room feed line here past = (Ok WordStep, here)
scan_step_and_rest_at_byte true false feed line here past = (Err (grid_fault_at_line ReaderStuck line), here)
scan_step_and_rest_at_byte true true true line here past = (Ok FeedStep, past)
scan_step_and_rest_at_byte true true false line here past = (Ok Blank, past)

abbrev scan_step_and_rest_in_bytes : ℕ → ℕ → List ℕ → Bool → Result ScanStepResult GridFault × ComingBytes
scan_step_and_rest_in_bytes line run [] true = (Err (grid_fault_at_line Read line), record { bytes = []; fails = true })
scan_step_and_rest_in_bytes line run [] false = (Ok End, record { bytes = []; fails = false })
scan_step_and_rest_in_bytes line run (b ∷ bs) fails =
    scan_step_and_rest_at_byte (is_space b) (nat_lt run 1048576) (b == 10) line (record { bytes = b ∷ bs; fails = fails }) (record { bytes = bs; fails = fails })

-- the result of a step after a run of `run` bytes, and the bytes to come after it
unfoldable pub scan_step_and_rest_after_blanks : ℕ → ℕ → ComingBytes → Result ScanStepResult GridFault × ComingBytes
scan_step_and_rest_after_blanks line run c = scan_step_and_rest_in_bytes line run c.bytes c.fails

-- the line after a step, and the length of the run after it
abbrev pub line_number_after_step : Result ScanStepResult GridFault → ℕ → ℕ
line_number_after_step (Ok FeedStep) line = line + 1
line_number_after_step _ line = line

abbrev pub blank_run_length_after_step : Result ScanStepResult GridFault → ℕ → ℕ
blank_run_length_after_step (Ok Blank) run = run + 1
blank_run_length_after_step (Ok FeedStep) run = run + 1
blank_run_length_after_step _ run = run

-- if the step reports the end, no bytes are left
abbrev pub NoBytesLeftIfStepReportsEnd : Result ScanStepResult GridFault → BytesAhead → Type 0
NoBytesLeftIfStepReportsEnd (Ok End) ahead = IsSourceAtEndOrFailed false (bytes_to_come_for_content ahead)
NoBytesLeftIfStepReportsEnd _ ahead = Unit {0}

-- the scanner has made a step over the bytes to come, which changes only the line, the run and these bytes
pub record IsScannerAfterStep (step : Result ScanStepResult GridFault) (old new : ScannerState) : Type 0 where
  pub value : ScanResultsBeforeAndAfterAgree (scan_step_and_rest_after_blanks old.line old.run) old.ahead
      (λ c. (step, c)) new.ahead
  pub scan : new ≡ record old {
    line = line_number_after_step step old.line;
    run = blank_run_length_after_step step old.run;
    ahead = new.ahead;
  }
  pub run : new.run ≤ 1048576
  pub end : NoBytesLeftIfStepReportsEnd step new.ahead

-- the start of the next word, given the result of a step before it
abbrev pub word_start_after_step : Result ScanStepResult GridFault → ℕ → ℕ → ComingBytes → NextWordStart
word_start_after_step (Ok Blank) line run c = next_word_start line run c
word_start_after_step (Ok FeedStep) line run c = next_word_start line run c
word_start_after_step (Ok WordStep) line run c = Begins line c
word_start_after_step (Ok End) line run c = Ends line
word_start_after_step (Err f) line run c = Stops f

-- the end of the blanks in a line, given the result of a step before it
abbrev pub blank_run_end_after_step : Result ScanStepResult GridFault → ℕ → ℕ → ComingBytes → BlankRunEnd
blank_run_end_after_step (Ok Blank) line run c = end_of_continued_blank_run line run c
blank_run_end_after_step (Ok FeedStep) line run c = Feed run c
blank_run_end_after_step (Ok WordStep) line run c = Word c
blank_run_end_after_step (Ok End) line run c = Last
blank_run_end_after_step (Err f) line run c = Fault f
