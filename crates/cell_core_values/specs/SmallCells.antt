-- Cells stored as bytes.
use Rattle.std.specs.Prelude.{ℕ, ℤ, pos, ◌≤ℤ◌, ◌==◌, List, map, Option, None, Some, if◌then◌else◌}

-- the cell that a byte stands for
abbrev pub cell_of_stored_byte : ℕ → Option ℤ
cell_of_stored_byte b = if b == 255 then None else Some (pos b)

-- the cells that bytes stand for
abbrev pub cells_of_bytes : List ℕ → List (Option ℤ)
cells_of_bytes bytes = map cell_of_stored_byte bytes

-- a cell that a byte stands for
abbrev pub CellFitsInByte : Option ℤ → Type 0
CellFitsInByte None = Unit {0}
CellFitsInByte (Some category) = (pos 0 ≤ℤ category) × (category ≤ℤ pos 254)
