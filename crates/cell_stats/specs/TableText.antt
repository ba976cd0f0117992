-- The printed text of a table and of cells (r.stats manual, flags -c, -l and -1; the null text, `no data` for null, and one separator byte: profile).
use Rattle.std.specs.Prelude.{ℕ, Bool, List, [], ◌∷◌, ◌++◌, flat_map, slice_get, codes, decimal, Option, Some, None, unwrap_or, if◌then◌else◌}
use Rattle.std.specs.FinMap as finmap
use Rattle.std.specs.List.{zip, join_with_byte}
use Rattle.std.specs.Option.{option_map_or}
use Rattle.cell_core.specs.Grid.{Grid, CellValue}
use Rattle.cell_core.specs.Text.{cell_text}
use Rattle.cell_stats_combinations.specs.declared.skip.Skip.{Skip}
use Rattle.cell_stats_combinations.specs.Combinations.{Combination, all_combinations}
use Rattle.cell_stats.specs.CategoryTables.{CombinationsWithCounts, entries_after_combination}
use Rattle.cell_stats_combinations.specs.LeftOut.{kept_cells}

-- a format: the byte between fields, the null text, and whether labels and counts are printed
pub record TableFormatValue : Type 0 where
  pub separator : ℕ
  pub null_text : List ℕ
  pub labels : Bool
  pub counts : Bool

-- the label of a category, empty if it has none; the label of null is `no data`
abbrev pub label_text : Grid → CellValue → List ℕ
label_text map None = codes "no data"
label_text map (Some category) = unwrap_or (finmap.get map.labels category) []

-- the label of a cell of the map at index `place`
abbrev pub label_of_cell : List Grid → ℕ → CellValue → List ℕ
label_of_cell maps place cell = option_map_or (λ map. label_text map cell) (slice_get maps place) []

-- the fields of a cell: its category in decimal or the null text, followed by its label if labels are printed
abbrev pub cell_fields : TableFormatValue → List Grid → ℕ → CellValue → List (List ℕ)
cell_fields format maps place cell = cell_text format.null_text cell ∷ (if format.labels then label_of_cell maps place cell ∷ [] else [])

-- the fields of a combination, map by map
abbrev pub combination_fields : TableFormatValue → List Grid → List ℕ → Combination → List (List ℕ)
combination_fields format maps picks k = flat_map (λ p. cell_fields format maps p.0 p.1) (zip picks k)

-- the count, if counts are printed
abbrev pub count_fields : TableFormatValue → ℕ → List (List ℕ)
count_fields format n = if format.counts then decimal n ∷ [] else []

-- the fields joined by the separator, then a line feed
abbrev pub line_text : TableFormatValue → List (List ℕ) → List ℕ
line_text format fields = join_with_byte format.separator fields ++ codes "\n"

-- the line of a table entry: its combination, followed by its count
abbrev pub entry_line : TableFormatValue → List Grid → List ℕ → Combination × ℕ → List ℕ
entry_line format maps picks pair = line_text format (combination_fields format maps picks pair.0 ++ count_fields format pair.1)

-- the line of a cell: its combination
abbrev pub cell_line : TableFormatValue → List Grid → List ℕ → Combination → List ℕ
cell_line format maps picks k = line_text format (combination_fields format maps picks k)

-- the entries that are printed: all, or the entries after a combination
abbrev pub table_entries_to_print : Option Combination → CombinationsWithCounts → CombinationsWithCounts
table_entries_to_print None pairs = pairs
table_entries_to_print (Some k) pairs = entries_after_combination k pairs

-- a line for each table entry
abbrev pub table_text : TableFormatValue → List Grid → List ℕ → CombinationsWithCounts → List ℕ
table_text format maps picks pairs = flat_map (entry_line format maps picks) pairs

-- a line for each cell that is not left out, row by row from the top left
abbrev pub cell_lines : TableFormatValue → Skip → List Grid → List ℕ → ℕ → ℕ → List ℕ
cell_lines format skip maps picks rows cols = flat_map (cell_line format maps picks) (kept_cells skip (all_combinations maps picks rows cols))
