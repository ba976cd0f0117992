-- The text of a row's cells, run by run.
use Rattle.std.specs.Prelude.{ℕ, List, ◌∷◌, map, flat_map, replicate, codes}
use Rattle.std.specs.List.{join_with_byte}
use Rattle.cell_core_values.specs.Letters.{byte}
use Rattle.cell_core.specs.Grid.{CellValue}
use Rattle.cell_core.specs.Text.{cell_text}

-- a text, repeated n times
abbrev pub repeated_text : ℕ → List ℕ → List ℕ
repeated_text n text = flat_map (λ t. t) (replicate n text)

-- a space and the text of each cell
abbrev pub cell_texts_each_after_a_space : List ℕ → List CellValue → List ℕ
cell_texts_each_after_a_space null_text cells = flat_map (λ cell. byte (codes " ") ∷ cell_text null_text cell) cells

-- the texts of cells, separated by spaces
abbrev pub cell_texts_separated_by_spaces : List ℕ → List CellValue → List ℕ
cell_texts_separated_by_spaces null_text cells = join_with_byte (byte (codes " ")) (map (cell_text null_text) cells)
