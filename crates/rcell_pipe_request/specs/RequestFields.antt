-- Requests are read from left to right, up to the first error. Numbers have their lowest byte first, and each length
-- precedes its bytes (profile).
use Rattle.std.specs.Prelude.{ℕ, ℤ, zero, suc, Bool, true, false, List, length, take, Option, Some, None}
use Rattle.std.specs.Prelude.{Result, Ok, Err, nat_lt, ◌==◌, if◌then◌else◌}
use Rattle.std.specs.Int.{Width, byte_len, from_le_bytes, cast_signed}
use Rattle.cell_core_devices.specs.Device.{ComingBytes, bytes_to_come_after_reading}
use Rattle.cell_core_values.specs.Answers.{◌>>=◌}
use Rattle.rcell_pipe_request.specs.declared.error.ErrorKind.{ErrorKind}
use Rattle.rcell_pipe_request.specs.declared.error.ErrorKind.TheVariants.{Short, ReadFailed, Trailing}
use Rattle.rcell_pipe_request.specs.declared.error.RequestError.{RequestError}

-- the value read and what is still to come, or an error
abbrev pub RequestFieldReading : Type 0 → Type 0
RequestFieldReading X = Result (X × ComingBytes) ErrorKind

-- the value, or the error if there is none
abbrev pub reading_of_value_or_error_kind : {X : Type 0} → ErrorKind → ComingBytes → Option X → RequestFieldReading X
reading_of_value_or_error_kind kind rest None = Err kind
reading_of_value_or_error_kind kind rest (Some x) = Ok (x, rest)

-- why a source returns no more bytes: it ended or failed
abbrev pub error_kind_of_source_end : Bool → ErrorKind
error_kind_of_source_end true = ReadFailed
error_kind_of_source_end false = Short

-- `n` bytes
unfoldable pub bytes_reading : ℕ → ComingBytes → RequestFieldReading (List ℕ)
bytes_reading n c = if nat_lt (length c.bytes) n then Err (error_kind_of_source_end c.fails) else Ok
    (take n c.bytes, bytes_to_come_after_reading c n)

-- an unsigned number
unfoldable pub unsigned_number_reading : Width → ComingBytes → RequestFieldReading ℕ
unsigned_number_reading w c = do
  b ← bytes_reading (byte_len w) c
  Ok (from_le_bytes w b.0, b.1)

-- a number in two's complement
unfoldable pub signed_number_reading : Width → ComingBytes → RequestFieldReading ℤ
signed_number_reading w c = do
  n ← unsigned_number_reading w c
  Ok (cast_signed w n.0, n.1)

-- a length, then a text of this length
unfoldable pub sized_text_reading : Width → ComingBytes → RequestFieldReading (List ℕ)
sized_text_reading w c = do
  n ← unsigned_number_reading w c
  bytes_reading n.0 n.1

-- `n` steps, one after another
unfoldable pub reading_repeated_n_times : {S E : Type 0} → (S → ComingBytes → Result (S × ComingBytes) E) → S → ℕ
    → ComingBytes → Result (S × ComingBytes) E
reading_repeated_n_times step so_far zero c = Ok (so_far, c)
reading_repeated_n_times step so_far (suc n) c = do
  next ← step so_far c
  reading_repeated_n_times step next.0 n next.1

-- no bytes follow the request
unfoldable pub end_of_request_reading : ComingBytes → RequestFieldReading Unit
end_of_request_reading c = if length c.bytes == 0 then (if c.fails then Err ReadFailed else Ok
    (tt, c)) else Err Trailing

-- a reading whose error has a position: the number of maps, tiles, tables or lists before it, and the number of the
-- row, the question or the line of a text grid, or 0 if it is in none of them
abbrev pub PositionedReading : Type 0 → Type 0
PositionedReading X = Result (X × ComingBytes) RequestError

abbrev pub result_with_error_position : {X : Type 0} → ℕ → ℕ → Result X ErrorKind → Result X RequestError
result_with_error_position maps row (Ok x) = Ok x
result_with_error_position maps row (Err kind) = Err (record { kind = kind; maps = maps; row = row })
