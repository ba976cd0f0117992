-- The position of a scanner at the value of a header line, and after the line.
use Rattle.std.specs.Prelude.{ℕ, ◌≡◌, ◌≤◌, ◌+◌, false, length}
use Rattle.cell_ascii_reading.specs.Ahead.{bytes_to_come_for_content, IsSourceAtEndOrFailed}
use Rattle.cell_ascii_reading.specs.Scan.{ScannerState}
use Rattle.cell_ascii_reading.specs.declared.header_reading.HeaderLineEnding.{HeaderLineEnding}
use Rattle.cell_ascii_reading.specs.declared.header_reading.HeaderLineEnding.TheVariants.{Feed, Text}

-- the value begins at this index of the word; the scanner is still in this line, and no run of blanks is open
pub record IsScannerAtHeaderValue (at here : ℕ) (s : ScannerState) : Type 0 where
  pub line : s.line ≡ here
  pub run : s.run ≡ 0
  pub within : at ≤ length s.word

-- the number of the line after this one
abbrev pub line_number_after_ending : HeaderLineEnding → ℕ → ℕ
line_number_after_ending Feed line = line + 1
line_number_after_ending Text line = line

-- if the line ends with the text, no bytes are left
abbrev pub NoBytesLeftIfLineEndsText : HeaderLineEnding → ScannerState → Type 0
NoBytesLeftIfLineEndsText Feed s = Unit {0}
NoBytesLeftIfLineEndsText Text s = IsSourceAtEndOrFailed false (bytes_to_come_for_content s.ahead)

-- the scanner is after the end of this line
pub record IsScannerAfterLineEnd (ending : HeaderLineEnding) (here : ℕ) (s : ScannerState) : Type 0 where
  pub line : s.line ≡ line_number_after_ending ending here
  pub lines : s.line ≤ here + 1
  pub run : s.run ≤ 1048576
  pub end : NoBytesLeftIfLineEndsText ending s
