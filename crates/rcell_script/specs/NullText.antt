-- Valid null texts in a table (r.stats manual) and in a written grid (r.out.ascii manual); the bytes allowed: profile.
use Rattle.std.specs.Prelude.{ℕ, Bool, not, ◌&&◌, ◌==◌, nat_le, List, length, codes}
use Rattle.std.specs.List.{list_all}
use Rattle.cell_core_values.specs.Letters.{byte}
use Rattle.cell_core_values.specs.Name.{is_byte_between}

-- 1 to 64 bytes that all pass the test `kind`
abbrev pub is_1_to_64_bytes_passing_test : (ℕ → Bool) → List ℕ → Bool
is_1_to_64_bytes_passing_test kind bs = nat_le 1 (length bs) && (nat_le (length bs) 64 && list_all kind bs)

-- a printable ASCII character other than a space
abbrev pub is_printable_byte : ℕ → Bool
is_printable_byte b = is_byte_between (byte (codes "!")) (byte (codes "~")) b

-- a printable ASCII character other than a space or a colon
abbrev pub is_grid_null_text_byte : ℕ → Bool
is_grid_null_text_byte b = is_printable_byte b && not (b == byte (codes ":"))

-- a valid null text for a grid
abbrev pub is_grid_null_text : List ℕ → Bool
is_grid_null_text bs = is_1_to_64_bytes_passing_test is_grid_null_text_byte bs

-- a valid null text for a table
abbrev pub is_table_null_text : List ℕ → Bool
is_table_null_text bs = is_1_to_64_bytes_passing_test is_printable_byte bs
