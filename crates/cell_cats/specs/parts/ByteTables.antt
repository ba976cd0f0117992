-- The new categories of cells stored as bytes.
use Rattle.std.specs.Prelude.{ℕ, ◌≡◌, ◌<◌, List, get_or}
use Rattle.cell_core_values.specs.SmallCells.{cell_of_stored_byte}
use Rattle.cell_cats.specs.Rule.{RuleValue, new_category}

-- for each byte, the table contains a byte that stands for its new category
abbrev pub IsByteReclassTable : List RuleValue → List ℕ → Type 0
IsByteReclassTable rules table = (b : ℕ) → b < 256 → cell_of_stored_byte (get_or table b 0)
    ≡ new_category rules (cell_of_stored_byte b)
