-- Numbers that fit in a signed 32-bit integer.
use Rattle.std.specs.Prelude.{◌≡◌, ℤ, Bool, true, false, Option}
use Rattle.std.specs.Ordering.{int_eq}
use Rattle.cell_core_values.specs.Cell.{is_category}
use Rattle.rcell_pipe_rows.specs.declared.kind.CellType.{CellType}
use Rattle.rcell_pipe_rows.specs.declared.kind.CellType.TheVariants.{U8, I8, U16, I16, U32, I32, I64}
use Rattle.rcell_pipe_rows.specs.RawRows.{is_nodata}

-- all numbers of the type fit
abbrev pub is_cell_type_within_i32 : CellType → Bool
is_cell_type_within_i32 U8 = true
is_cell_type_within_i32 I8 = true
is_cell_type_within_i32 U16 = true
is_cell_type_within_i32 I16 = true
is_cell_type_within_i32 U32 = false
is_cell_type_within_i32 I32 = true
is_cell_type_within_i32 I64 = false

-- a category denotes null exactly if it equals `null`
abbrev pub IsOnlyCategoryDenotingNull : Option ℤ → ℤ → Type 0
IsOnlyCategoryDenotingNull nodata null = (n : ℤ) → is_category n ≡ true → int_eq n null ≡ is_nodata nodata n
