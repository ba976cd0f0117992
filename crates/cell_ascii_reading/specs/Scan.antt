-- The state of a scanner, and the results of its calls.
use Rattle.std.specs.Prelude.{ℕ, ◌≡◌, ◌+◌, Bool, true, false, List, Result, Ok, Err, IfErr}
use Rattle.cell_core_devices.specs.Asking.{source_knowledge_after_calls}
use Rattle.cell_core_devices.specs.Device.{ComingBytes}
use Rattle.cell_ascii_reading.specs.Ahead.{BytesAhead}
use Rattle.cell_ascii_meaning.specs.GridTokens.{NextWordStart, Begins, Ends, Stops, word_continued_in_bytes}
use Rattle.cell_ascii_meaning.specs.Header.{BlankRunEnd, Word, Feed, Last, Fault}
use Rattle.cell_ascii_meaning.specs.Kinds.{IsFaultOfText, reports_failed_read}
use Rattle.cell_ascii_meaning.specs.declared.grid_fault.GridFault.{GridFault}
use Rattle.cell_ascii_reading.specs.declared.scanner.WordOrTextEnd.{WordOrTextEnd}
use Rattle.cell_ascii_reading.specs.declared.scanner.WordOrTextEnd.TheVariants.{Word as NextWord, End as NextEnd}
use Rattle.cell_ascii_reading.specs.declared.scanner.WordOrLineEnd.{WordOrLineEnd}
use Rattle.cell_ascii_reading.specs.declared.scanner.WordOrLineEnd.TheVariants.{Word as LineWord, Feed as LineFeed, End as LineEnd}

-- the line, the length of the current run of blanks and line feeds, the last word, and the bytes ahead
pub record ScannerState : Type 0 where
  pub line : ℕ
  pub run : ℕ
  pub word : List ℕ
  pub ahead : BytesAhead

-- the start of the next word, or the end of the text, or the error of the call
abbrev pub word_start_from_call_result : Result WordOrTextEnd GridFault → ℕ → ComingBytes → NextWordStart
word_start_from_call_result (Ok NextWord) line c = Begins line c
word_start_from_call_result (Ok NextEnd) line c = Ends line
word_start_from_call_result (Err f) line c = Stops f

-- the end of the blanks in a line, or the error of the call
abbrev pub blank_run_end_from_call_result : Result WordOrLineEnd GridFault → ℕ → ComingBytes → BlankRunEnd
blank_run_end_from_call_result (Ok LineWord) run c = Word c
blank_run_end_from_call_result (Ok LineFeed) run c = Feed run c
blank_run_end_from_call_result (Ok LineEnd) run c = Last
blank_run_end_from_call_result (Err f) run c = Fault f

-- the line number after the blanks
abbrev pub line_number_after_blanks : Result WordOrLineEnd GridFault → ℕ → ℕ
line_number_after_blanks (Ok LineWord) line = line
line_number_after_blanks (Ok LineFeed) line = line + 1
line_number_after_blanks (Ok LineEnd) line = line
line_number_after_blanks (Err f) line = line

-- the word and the bytes after it, or the error of the call
abbrev pub word_from_call_result : Result (Unit {0}) GridFault → List ℕ → ComingBytes
    → Result (List ℕ × ComingBytes) GridFault
word_from_call_result (Ok u) word c = Ok (word, c)
word_from_call_result (Err f) word c = Err f

-- the full word, given the part that was read so far, or the error of the call
abbrev pub full_word_from_call_result : Result Bool GridFault → ℕ → List ℕ → ComingBytes
    → Result (List ℕ × ComingBytes) GridFault
full_word_from_call_result (Ok true) line word c = word_continued_in_bytes line word c
full_word_from_call_result (Ok false) line word c = Ok (word, c)
full_word_from_call_result (Err f) line word c = Err f

-- any error of the result is an error in the text or its source
abbrev pub AnyFaultIsOfTextOrSource : {A : Type 0} → Result A GridFault → Type 0
AnyFaultIsOfTextOrSource answer = IfErr answer (λ f. IsFaultOfText f.kind)

-- the result reports whether the source returned an `Err`
abbrev pub ResultTellsIfSourceFailed : {A : Type 0} → Result A GridFault → BytesAhead → BytesAhead → Type 0
ResultTellsIfSourceFailed answer old new = new.heard ≡ source_knowledge_after_calls
    (reports_failed_read answer) old.heard
