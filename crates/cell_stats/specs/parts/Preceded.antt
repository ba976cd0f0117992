-- The fields of a line, each after a separator.
use Rattle.std.specs.Prelude.{ℕ, List, ◌∷◌, flat_map}
use Rattle.std.specs.List.{zip, join_with_byte}
use Rattle.cell_core.specs.Grid.{Grid, CellValue}
use Rattle.cell_stats_combinations.specs.Combinations.{Combination}
use Rattle.cell_stats.specs.TableText.{TableFormatValue, cell_fields}

-- each text after the byte c
abbrev pub texts_each_after_byte : ℕ → List (List ℕ) → List ℕ
texts_each_after_byte c texts = flat_map (λ text. c ∷ text) texts

-- a cell, followed by its label if labels are printed
abbrev pub cell_and_label_text : TableFormatValue → List Grid → ℕ → CellValue → List ℕ
cell_and_label_text format maps place cell = join_with_byte format.separator (cell_fields format maps place cell)

-- a separator and a cell, followed by its label if labels are printed
abbrev pub separator_cell_and_label_text : TableFormatValue → List Grid → ℕ × CellValue → List ℕ
separator_cell_and_label_text format maps p = format.separator ∷ cell_and_label_text format maps p.0 p.1

-- all cells except the first, each after a separator
abbrev pub text_of_cells_after_first : TableFormatValue → List Grid → List ℕ → Combination → List ℕ
text_of_cells_after_first format maps picks k = flat_map (separator_cell_and_label_text format maps) (zip picks k)
