-- A combination as a text: its cells, separated by commas (profile).
use Rattle.std.specs.Prelude.{ℕ, ◌≡◌, List, Some, None, codes}
use Rattle.std.specs.List.{AllZip}
use Rattle.cell_core.specs.Grid.{CellValue}
use Rattle.cell_core_values.specs.WholeNumbers.{whole_number_in_category_range}
use Rattle.cell_core_values.specs.Words.{parts_between_commas}
use Rattle.cell_stats_combinations.specs.Combinations.{Combination}

-- the part spells the cell: an asterisk for null, or a whole number in range
abbrev pub SpellsCell : List ℕ → CellValue → Type 0
SpellsCell part None = part ≡ codes "*"
SpellsCell part (Some category) = whole_number_in_category_range part ≡ Some category

-- each part of the text spells one of the cells, in order
abbrev pub SpellsCombination : List ℕ → Combination → Type 0
SpellsCombination text combination = AllZip SpellsCell (parts_between_commas text) combination
