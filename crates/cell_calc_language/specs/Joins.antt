-- Functions that combine the values of arguments one after another.
use Rattle.std.specs.Prelude.{if◌then◌else◌}
use Rattle.cell_core.specs.Grid.{CellValue}
use Rattle.cell_calc_language.specs.CellOperators.{lesser, greater_than_as_cell, is_null}

-- the smaller and the larger of two cells, ignoring null
abbrev pub known_lesser : CellValue → CellValue → CellValue
known_lesser a b = if is_null a then b else (if is_null b then a else lesser a b)

abbrev pub greater_ignoring_null : CellValue → CellValue → CellValue
greater_ignoring_null a b = if is_null a then b else (if is_null b then a else greater_than_as_cell a b)
