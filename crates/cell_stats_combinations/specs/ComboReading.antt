-- How a combination is read from a text, and the errors of other texts (profile).
use Rattle.std.specs.Prelude.{ℕ, ◌≡◌, ◌↔◌, ◌==◌, List, [], ◌∷◌, length, Option, Some, None, Result, Ok, Err, if◌then◌else◌, bytes_eq, codes}
use Rattle.std.specs.Option.{option_map, option_and_then}
use Rattle.cell_core.specs.Grid.{CellValue}
use Rattle.cell_core_values.specs.WholeNumbers.{whole_number_in_category_range}
use Rattle.cell_core_values.specs.Words.{parts_between_commas}
use Rattle.cell_stats_combinations.specs.Combinations.{Combination}
use Rattle.cell_stats_combinations.specs.ComboText.{SpellsCombination}
use Rattle.cell_stats_combinations.specs.declared.combination_text.ComboFault.{ComboFault}
use Rattle.cell_stats_combinations.specs.declared.combination_text.ComboFault.TheVariants.{BadCombo, BadWidth}

-- the cell that a part spells: null for an asterisk, otherwise a whole number in range
abbrev pub cell_of_text_part : List ℕ → Option CellValue
cell_of_text_part part = if bytes_eq part (codes "*") then Some None else option_map Some
    (whole_number_in_category_range part)

-- the cells that parts spell, if each part is a cell
abbrev pub cells_of_text_parts : List (List ℕ) → Option Combination
cells_of_text_parts [] = Some []
cells_of_text_parts (part ∷ parts) = option_and_then (λ cell. option_map (λ cells. cell ∷ cells) (cells_of_text_parts parts)) (cell_of_text_part part)

-- the cells, if there are `width` of them, otherwise an error
abbrev pub combination_if_of_width : ℕ → Option Combination → Result Combination ComboFault
combination_if_of_width width None = Err BadCombo
combination_if_of_width width (Some cells) = if length cells == width then Ok cells else Err BadWidth

-- the combination that a text spells; an invalid part is reported before a wrong number of parts
abbrev pub combination_of_text : ℕ → List ℕ → Result Combination ComboFault
combination_of_text width text = combination_if_of_width width (cells_of_text_parts (parts_between_commas text))

-- a text is read as a combination if and only if it spells this combination with this width
abbrev pub TextsAreReadAsCombinations : Type 0
TextsAreReadAsCombinations = (width : ℕ) (text : List ℕ) (combination : Combination)
    → (combination_of_text width text ≡ Ok combination) ↔ ((length combination ≡ width)
    × SpellsCombination text combination)
