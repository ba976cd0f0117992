-- The cells of a map at any row and column; null outside the region (profile).
use Rattle.std.specs.Prelude.{ℕ, ℤ, pos, negsuc, List, [], Option, Some, None, slice_index_or}
use Rattle.cell_core.specs.Grid.{Grid, CellValue}

-- the item at a whole number, counted from 0; `outside` if the list has no such item
abbrev pub item_at_integer_or_default : {A : Type 0} → A → List A → ℤ → A
item_at_integer_or_default outside xs (pos n) = slice_index_or xs n outside
item_at_integer_or_default outside xs (negsuc n) = outside

-- the cells of a map's row; empty outside the map
abbrev pub row_of_map_or_empty : Grid → ℤ → List CellValue
row_of_map_or_empty m r = item_at_integer_or_default [] m.rows r

-- the cell at a row and a column; null outside the map
abbrev pub cell_of_map_or_null : Grid → ℤ → ℤ → CellValue
cell_of_map_or_null m r c = item_at_integer_or_default None (row_of_map_or_empty m r) c

-- the cell of a map, if there is a map, otherwise null
abbrev pub cell_of_optional_map : Option Grid → ℤ → ℤ → CellValue
cell_of_optional_map None r c = None
cell_of_optional_map (Some m) r c = cell_of_map_or_null m r c
