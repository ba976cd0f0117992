-- The numbers in a row of bytes: integers of one type, lowest byte first, as NumPy, GDAL and R store rasters.
use Rattle.std.specs.Prelude.{ℕ, ℤ, pos, negsuc, ◌*◌, Bool, true, false, ◌&&◌, int_le, List, take, drop, Option, Some, None, if◌then◌else◌, ◌==◌}
use Rattle.std.specs.Int.{Width, w8, w16, w32, w64, byte_len, from_le_bytes, cast_signed}
use Rattle.rcell_pipe_rows.specs.declared.kind.CellType.{CellType}
use Rattle.rcell_pipe_rows.specs.declared.kind.CellType.TheVariants.{U8, I8, U16, I16, U32, I32, I64}

-- the type with this code
abbrev pub cell_type_of_code : ℕ → Option CellType
cell_type_of_code code = if code == 1 then Some U8 else (if code == 2 then Some I8 else (if code == 3 then Some U16 else (if code == 4 then Some I16 else (if code == 5 then Some U32 else (if code == 6 then Some I32 else (if code == 7 then Some I64 else None))))))

-- a number's size in bits
abbrev pub bit_width_of_cell_type : CellType → Width
bit_width_of_cell_type U8 = w8
bit_width_of_cell_type I8 = w8
bit_width_of_cell_type U16 = w16
bit_width_of_cell_type I16 = w16
bit_width_of_cell_type U32 = w32
bit_width_of_cell_type I32 = w32
bit_width_of_cell_type I64 = w64

-- a number's size in bytes
abbrev pub byte_size_of_cell_type : CellType → ℕ
byte_size_of_cell_type kind = byte_len (bit_width_of_cell_type kind)

abbrev pub is_signed_cell_type : CellType → Bool
is_signed_cell_type U8 = false
is_signed_cell_type I8 = true
is_signed_cell_type U16 = false
is_signed_cell_type I16 = true
is_signed_cell_type U32 = false
is_signed_cell_type I32 = true
is_signed_cell_type I64 = true

-- the number that the bytes encode
abbrev pub number_from_bytes : CellType → List ℕ → ℤ
number_from_bytes kind bytes = if is_signed_cell_type kind then cast_signed (bit_width_of_cell_type kind) (from_le_bytes (bit_width_of_cell_type kind) bytes) else pos (from_le_bytes (bit_width_of_cell_type kind) bytes)

-- the number at index `place` of a row
abbrev pub raw_number_at_place : CellType → List ℕ → ℕ → ℤ
raw_number_at_place kind bytes place = number_from_bytes kind (take (byte_size_of_cell_type kind)
    (drop (place * byte_size_of_cell_type kind) bytes))

-- the type can represent the number
abbrev pub can_represent_number : CellType → ℤ → Bool
can_represent_number U8 n = int_le (pos 0) n && int_le n (pos 255)
can_represent_number I8 n = int_le (negsuc 127) n && int_le n (pos 127)
can_represent_number U16 n = int_le (pos 0) n && int_le n (pos 65535)
can_represent_number I16 n = int_le (negsuc 32767) n && int_le n (pos 32767)
can_represent_number U32 n = int_le (pos 0) n && int_le n (pos 4294967295)
can_represent_number I32 n = int_le (negsuc 2147483647) n && int_le n (pos 2147483647)
can_represent_number I64 n = true
