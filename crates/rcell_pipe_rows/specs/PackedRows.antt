-- Rows of `u8` numbers, packed into bytes as maps store small cells: 255 denotes null.
use Rattle.std.specs.Prelude.{ℕ, ℤ, Bool, List, Option, if◌then◌else◌}
use Rattle.cell_core_values.specs.SmallCells.{cells_of_bytes}

-- the cells of a row, from its bytes if it is packed
abbrev pub cells_of_maybe_packed_row : Bool → List ℕ → List (Option ℤ) → List (Option ℤ)
cells_of_maybe_packed_row packed bytes cells = if packed then cells_of_bytes bytes else cells
