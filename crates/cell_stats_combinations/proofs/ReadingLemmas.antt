-- Reading a text returns the combination that it spells.
use Rattle.std.proofs.Common.{◌≡◌, ℕ, ℤ, Bool, true, false, cond, List, [], ◌∷◌}
use Rattle.std.proofs.Common.{length, Option, Some, None, Ok, codes, refl, ap, sym, ◌∙◌, arith}
use Rattle.std.specs.List.{AllZip}
use Rattle.std.specs.Option.{option_map, option_and_then}
use Rattle.std.specs.Prelude.{bytes_eq}
use Rattle.std.specs.Cmp.Lexicographic.{bytes_decides}
use Rattle.cell_core.specs.Grid.{CellValue}
use Rattle.cell_core_values.specs.WholeNumbers.{whole_number_in_category_range}
use Rattle.cell_core_values.specs.Words.{parts_between_commas}
use Rattle.cell_stats_combinations.specs.Combinations.{Combination}
use Rattle.cell_stats_combinations.specs.ComboText.{SpellsCell}
use Rattle.cell_stats_combinations.specs.ComboReading.{cell_of_text_part, cells_of_text_parts, combination_if_of_width}
use Rattle.cell_stats_combinations.specs.ComboReading.{TextsAreReadAsCombinations}

cell-sound : (part : List ℕ) (cell : CellValue) → cell_of_text_part part ≡ Some cell → SpellsCell part cell
cell-sound part cell e = by (bytes_eq part (codes "*")) (whole_number_in_category_range part) refl refl cell e
  where
    by : (star : Bool) (number : Option ℤ) → bytes_eq part (codes "*") ≡ star
        → whole_number_in_category_range part ≡ number
        → (cell : CellValue)
        → cond star (Some None) (option_map Some number) ≡ Some cell → SpellsCell part cell
    by true number is n None h = (bytes_decides part (codes "*")).0 is
    by true number is n (Some category) h = cc
    by false None is n cell h = cc
    by false (Some other) is n None h = cc
    by false (Some other) is n (Some category) h = n ∙ cc

cell-complete : (part : List ℕ) (cell : CellValue) → SpellsCell part cell → cell_of_text_part part ≡ Some cell
cell-complete part None s = rw s refl
cell-complete part (Some category) s = by (bytes_eq part (codes "*")) refl
  where
    by : (star : Bool) → bytes_eq part (codes "*") ≡ star → cell_of_text_part part ≡ Some (Some category)
    by true is =
        let word : part ≡ codes "*" = (bytes_decides part (codes "*")).0 is in
        let none : whole_number_in_category_range (codes "*")
        ≡ Some category = ap whole_number_in_category_range (sym word) ∙ s in
        cc
    by false is = rw (is, s) refl

cells-sound : (parts : List (List ℕ)) (cells : Combination) → cells_of_text_parts parts ≡ Some cells
    → AllZip SpellsCell parts cells
cells-sound [] [] e = tt
cells-sound [] (cell ∷ cells) e = cc
cells-sound (part ∷ parts) cells e =
    by (λ more m. cells-sound parts more m) (cell_of_text_part part) (cells_of_text_parts parts) refl refl cells e
  where
    by : ((more : Combination) → cells_of_text_parts parts ≡ Some more → AllZip SpellsCell parts more)
        → (one : Option CellValue) (more : Option Combination) → cell_of_text_part part ≡ one
        → cells_of_text_parts parts ≡ more
        → (cells : Combination)
        → option_and_then (λ cell. option_map (λ cells. cell ∷ cells) more) one ≡ Some cells
        → AllZip SpellsCell (part ∷ parts) cells
    by rest None more o m cells h = cc
    by rest (Some cell) None o m cells h = cc
    by rest (Some cell) (Some others) o m [] h = cc
    by rest (Some cell) (Some others) o m (first ∷ second) h =
        let one : cell ≡ first = cc in
        let more : others ≡ second = cc in
        (cell-sound part first (o ∙ ap Some one), rest second (m ∙ ap Some more))

cells-complete : (parts : List (List ℕ)) (cells : Combination) → AllZip SpellsCell parts cells
    → cells_of_text_parts parts ≡ Some cells
cells-complete [] [] s = refl
cells-complete [] (cell ∷ cells) s = absurd s
cells-complete (part ∷ parts) [] s = absurd s
cells-complete (part ∷ parts) (cell ∷ cells) s = rw (cell-complete part cell s.0, cells-complete parts cells s.1) refl

wide-sound : (width : ℕ) (read : Option Combination) (cells : Combination)
    → combination_if_of_width width read ≡ Ok cells
    → (read ≡ Some cells) × (length cells ≡ width)
wide-sound width None cells e = cc
wide-sound width (Some other) cells e = grind arith

wide-complete : (width : ℕ) (cells : Combination) → length cells ≡ width
    → combination_if_of_width width (Some cells) ≡ Ok cells
wide-complete width cells e = grind arith

pub combinations-are-read : TextsAreReadAsCombinations
combinations-are-read width text cells = (
  λ e. let w = wide-sound width (cells_of_text_parts (parts_between_commas text)) cells e in
      (w.1, cells-sound (parts_between_commas text) cells w.0),
  λ s. ap (combination_if_of_width width) (cells-complete (parts_between_commas text) cells s.1)
      ∙ wide-complete width cells s.0,
)
