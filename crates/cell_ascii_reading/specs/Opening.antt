-- Reading a header one line at a time.
use Rattle.std.specs.Prelude.{ℕ, ◌+◌, Bool, List, [], drop, Option, Some, None, Result, Ok, Err, if◌then◌else◌}
use Rattle.std.specs.List.{list_any}
use Rattle.cell_core_devices.specs.Device.{ComingBytes}
use Rattle.cell_ascii_meaning.specs.GridTokens.{NextWordStart, Begins, Ends, Stops, word_continued_in_bytes}
use Rattle.cell_ascii_meaning.specs.Header.{◌>>=◌, HeaderKeyValues, HeaderLineEnd, is_colon, header_line_after_first_word, HeaderAndDataStart, header_and_data_start, empty_coming_bytes}
use Rattle.cell_ascii_meaning.specs.declared.grid_fault.GridFault.{GridFault}
use Rattle.cell_ascii_reading.specs.declared.header_reading.HeaderLineEnding.{HeaderLineEnding}
use Rattle.cell_ascii_reading.specs.declared.header_reading.HeaderLineEnding.TheVariants.{Feed, Text}
use Rattle.cell_ascii_reading.specs.declared.header_reading.HeaderLineKind.{HeaderLineKind}
use Rattle.cell_ascii_reading.specs.declared.header_reading.HeaderLineKind.TheVariants.{Key, Data, Last}

-- the value of a line, which starts at index `at` of the word, or the error of the call
abbrev pub header_value_from_call_result : Result ℕ GridFault → List ℕ → ComingBytes
    → Result (List ℕ × ComingBytes) GridFault
header_value_from_call_result (Ok at) word c = Ok (drop at word, c)
header_value_from_call_result (Err f) word c = Err f

-- the end of a line, or the error of the call
abbrev pub line_end_from_call_result : Result HeaderLineEnding GridFault → ℕ → ComingBytes
    → Result HeaderLineEnd GridFault
line_end_from_call_result (Ok Feed) run c = Ok (Some (run, c))
line_end_from_call_result (Ok Text) run c = Ok None
line_end_from_call_result (Err f) run c = Err f

-- the keys and the end of a header line, or the error of the call
abbrev pub key_line_from_call_result : Result HeaderLineEnding GridFault → HeaderKeyValues → ℕ → ComingBytes
    → Result (HeaderKeyValues × HeaderLineEnd) GridFault
key_line_from_call_result (Ok Feed) keys run c = Ok (keys, Some (run, c))
key_line_from_call_result (Ok Text) keys run c = Ok (keys, None)
key_line_from_call_result (Err f) keys run c = Err f

-- the state after a header line: more lines, or the keys and the position at which the data begins
pub data StateAfterHeaderLine : Type 0 where
  More : HeaderKeyValues → ℕ → ℕ → ComingBytes → StateAfterHeaderLine
  Stop : HeaderKeyValues → ℕ → Option (List ℕ) → ComingBytes → StateAfterHeaderLine

-- the state after a line with a key
abbrev pub state_after_key_line : ℕ → HeaderKeyValues × HeaderLineEnd → Result StateAfterHeaderLine GridFault
state_after_key_line line (keys, None) = Ok (Stop keys line None empty_coming_bytes)
state_after_key_line line (keys, Some (run, c)) = Ok (More keys (line + 1) run c)

-- the state after a line, which is read from its first word
abbrev pub state_after_header_line : HeaderKeyValues → NextWordStart → Result StateAfterHeaderLine GridFault
state_after_header_line keys (Stops f) = Err f
state_after_header_line keys (Ends line) = Ok (Stop keys line None empty_coming_bytes)
state_after_header_line keys (Begins line c) =
    word_continued_in_bytes line [] c >>= (λ w. if list_any is_colon w.0 then header_line_after_first_word line keys w.0 w.1 >>= state_after_key_line line else Ok (Stop keys line (Some w.0) w.1))

-- the state after a line, or the error of the call
abbrev pub header_state_from_call_result : Result HeaderLineKind GridFault → HeaderKeyValues → List ℕ → ℕ → ℕ → ComingBytes → Result StateAfterHeaderLine GridFault
header_state_from_call_result (Ok Key) keys word line run c = Ok (More keys line run c)
header_state_from_call_result (Ok Data) keys word line run c = Ok (Stop keys line (Some word) c)
header_state_from_call_result (Ok Last) keys word line run c = Ok (Stop keys line None c)
header_state_from_call_result (Err f) keys word line run c = Err f

-- the header and the position after it, or the error of the call; `waiting` means that the first word of the data was
-- read
abbrev pub header_from_call_result : Result Bool GridFault → HeaderKeyValues → List ℕ → ℕ → ComingBytes
    → Result HeaderAndDataStart GridFault
header_from_call_result (Ok waiting) keys word line c = header_and_data_start keys line
    (if waiting then Some word else None) c
header_from_call_result (Err f) keys word line c = Err f
