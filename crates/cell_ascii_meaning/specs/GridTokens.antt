-- The words of a grid text, and the blanks and line feeds before each (profile: blanks, line feeds and their limits).
pub use Rattle.cell_ascii_meaning.specs.GridWords.{is_line_feed, is_space}
use Rattle.std.specs.Prelude.{ℕ, ◌+◌, ◌-◌, Bool, true, false, ◌==◌, not, nat_lt, List, [], ◌∷◌, ◌++◌, length, take, drop, count_by, Result, Ok, Err, if◌then◌else◌}
use Rattle.std.specs.List.{prefix_len}
use Rattle.cell_core_devices.specs.Device.{ComingBytes}
use Rattle.cell_ascii_meaning.specs.declared.grid_fault.GridKind.{GridKind}
use Rattle.cell_ascii_meaning.specs.declared.grid_fault.GridKind.TheVariants.{Read, ReaderStuck, LongToken}
use Rattle.cell_ascii_meaning.specs.declared.grid_fault.GridFault.{GridFault}

-- the byte is neither a blank nor a line feed
abbrev pub is_word_byte : ℕ → Bool
is_word_byte b = not (is_space b)

-- the number of line feeds in the bytes
abbrev pub line_feed_count : List ℕ → ℕ
line_feed_count bs = count_by is_line_feed bs

-- an error of this kind at this line
abbrev pub grid_fault_at_line : GridKind → ℕ → GridFault
grid_fault_at_line kind line = record { kind = kind; line = line }

-- the line of the next word and the bytes that start with it; or the end; or an error before them
pub data NextWordStart : Type 0 where
  Begins : ℕ → ComingBytes → NextWordStart
  Ends : ℕ → NextWordStart
  Stops : GridFault → NextWordStart

-- the next word, the end, or a failed read, after the blanks and line feeds
abbrev pub word_start_after_blanks : ℕ → List ℕ → Bool → NextWordStart
word_start_after_blanks line [] true = Stops (grid_fault_at_line Read line)
word_start_after_blanks line [] false = Ends line
word_start_after_blanks line (b ∷ bs) fails = Begins line (record { bytes = b ∷ bs; fails = fails })

-- the start of the next word, if `run` blanks and line feeds precede these bytes
unfoldable pub next_word_start : ℕ → ℕ → ComingBytes → NextWordStart
next_word_start line run c =
    let gap = prefix_len is_space c.bytes in
    if nat_lt 1048576 (run + gap) then Stops (grid_fault_at_line ReaderStuck
    (line + line_feed_count (take (1048576 - run) c.bytes)))
    else word_start_after_blanks (line + line_feed_count (take gap c.bytes)) (drop gap c.bytes) c.fails

-- the word and the bytes after it, or an error if the read fails at its end
abbrev pub word_or_failed_read : ℕ → List ℕ → List ℕ → Bool → Result (List ℕ × ComingBytes) GridFault
word_or_failed_read line word [] true = Err (grid_fault_at_line Read line)
word_or_failed_read line word [] false = Ok (word, record { bytes = []; fails = false })
word_or_failed_read line word (b ∷ bs) fails = Ok (word, record { bytes = b ∷ bs; fails = fails })

-- the word that starts with `front` and continues in these bytes, and the bytes after it
unfoldable pub word_continued_in_bytes : ℕ → List ℕ → ComingBytes → Result (List ℕ × ComingBytes) GridFault
word_continued_in_bytes line front c =
    let more = prefix_len is_word_byte c.bytes in
    if nat_lt 64 (length front + more) then Err (grid_fault_at_line LongToken line)
    else word_or_failed_read line (front ++ take more c.bytes) (drop more c.bytes) c.fails
