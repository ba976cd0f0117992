-- What commands read from maps does not depend on their labels.
use Rattle.std.proofs.Common.{◌≡◌, ℕ, ℤ, pos, ◌+ℤ◌, Bool, false, List, [], ◌∷◌, ◌++◌, map, Option, Some, None, refl, ap}
use Rattle.std.proofs.Common.{sym, ◌∙◌}
use Rattle.std.specs.Prelude.{slice_get, flat_map, if◌then◌else◌}
use Rattle.std.specs.Option.{option_map, option_map_or}
use Rattle.std.specs.List.{zip, range_with_len}
use Rattle.std.proofs.lemmas.Option.{slice_get-map}
use Rattle.cell_core.specs.Grid.{Grid, CellValue, cell_at}
use Rattle.cell_core.specs.Text.{cell_text}
use Rattle.cell_calc_language.specs.Applied.{PositionAndGridSize, negated_cell, logical_negation_of_cell}
use Rattle.cell_calc_language.specs.Applied.{operator_value, call_result}
use Rattle.cell_calc_language.specs.Offsets.{cell_of_optional_map}
use Rattle.cell_calc_language.specs.Formula.{Formula, Number, Map, Negated, Not, Binary, Call, ArgumentFormulas}
use Rattle.cell_calc_language.specs.Formula.{NoTrees}
use Rattle.cell_calc_language.specs.Formula.{Then}
use Rattle.cell_calc_language.specs.Value.{value, argument_values}
use Rattle.cell_ascii_meaning.specs.Writing.{grid_text}
use Rattle.cell_ascii_law.specs.WrittenLaw.{map_without_labels}
use Rattle.cell_stats_combinations.specs.Combinations.{Combination, cell_of_map_at_place, all_combinations}
use Rattle.cell_stats.specs.TableText.{TableFormatValue, cell_fields, label_of_cell, combination_fields, cell_line}
use Rattle.cell_stats.specs.TableText.{entry_line, count_fields, line_text}

-- a cell of a map, if the map exists, does not depend on labels
read_bare : {X : Type 0} (read : Grid → X) (none : X) (o : Option Grid)
    → ((m : Grid) → read m ≡ read (map_without_labels m))
    → option_map_or read o none ≡ option_map_or read (option_map map_without_labels o) none
read_bare read none None same = refl
read_bare read none (Some m) same = same m

-- the value read from the map at a place does not depend on labels
pub at_bare : {X : Type 0} (read : Grid → X) (none : X) (maps : List Grid) (place : ℕ)
    → ((m : Grid) → read m ≡ read (map_without_labels m))
    → option_map_or read (slice_get maps place) none ≡ option_map_or read
    (slice_get (map map_without_labels maps) place) none
at_bare read none maps place same =
    read_bare read none (slice_get maps place) same
    ∙ ap (λ o. option_map_or read o none) (sym (slice_get-map map_without_labels maps place))

pub cell_bare : (maps : List Grid) (row col place : ℕ)
    → cell_of_map_at_place maps row col place ≡ cell_of_map_at_place (map map_without_labels maps) row col place
cell_bare maps row col place = at_bare (λ m. cell_at m row col) None maps place (λ m. refl)

pub combinations_bare : (maps : List Grid) (places : List ℕ) (rows cols : ℕ)
    → all_combinations maps places rows cols ≡ all_combinations (map map_without_labels maps) places rows cols
combinations_bare maps places rows cols =
    λ i. flat_map (λ row. map (λ col. map (λ place. cell_bare maps row col place i) places) (range_with_len 0 cols))
    (range_with_len 0 rows)

pub grid_text_bare : (null_text : List ℕ) (maps : List Grid) (place : ℕ)
    → option_map_or (grid_text null_text) (slice_get maps place) [] ≡ option_map_or (grid_text null_text)
    (slice_get (map map_without_labels maps) place) []
grid_text_bare null_text maps place = at_bare (grid_text null_text) [] maps place (λ m. refl)

-- ---- values of expressions

in_bare : (o : Option Grid) (r c : ℤ) → cell_of_optional_map o r c
    ≡ cell_of_optional_map (option_map map_without_labels o) r c
in_bare None r c = refl
in_bare (Some m) r c = refl

mutual
  pub value_bare : (f : Formula) (maps : List Grid) (s : PositionAndGridSize)
      → value f maps s ≡ value f (map map_without_labels maps) s
  value_bare (Number n) maps s = refl
  value_bare (Map i down right) maps s =
      in_bare (slice_get maps i) (pos s.row +ℤ down) (pos s.col +ℤ right)
      ∙ ap (λ o. cell_of_optional_map o (pos s.row +ℤ down) (pos s.col +ℤ right))
      (sym (slice_get-map map_without_labels maps i))
  value_bare (Negated a) maps s = ap negated_cell (value_bare a maps s)
  value_bare (Not a) maps s = ap logical_negation_of_cell (value_bare a maps s)
  value_bare (Binary op a b) maps s =
      ap (λ x. operator_value op x (value b maps s)) (value_bare a maps s)
      ∙ ap (λ y. operator_value op (value a (map map_without_labels maps) s) y) (value_bare b maps s)
  value_bare (Call g xs) maps s = ap (call_result g s) (values_bare xs maps s)

  values_bare : (xs : ArgumentFormulas) (maps : List Grid) (s : PositionAndGridSize)
      → argument_values xs maps s ≡ argument_values xs (map map_without_labels maps) s
  values_bare NoTrees maps s = refl
  values_bare (Then a xs) maps s =
      ap (λ (x : CellValue). x ∷ argument_values xs maps s) (value_bare a maps s)
      ∙ ap (λ (l : List CellValue). value a (map map_without_labels maps) s ∷ l) (values_bare xs maps s)

-- ---- lines without labels

fields_bare : (format : TableFormatValue) → format.labels ≡ false
    → (some others : List Grid) (place : ℕ) (cell : CellValue)
    → cell_fields format some place cell ≡ cell_fields format others place cell
fields_bare format none some others place cell =
    ap (λ (b : Bool). cell_text format.null_text cell ∷ (if b then label_of_cell some place cell ∷ [] else [])) none
    ∙ sym (ap (λ (b : Bool). cell_text format.null_text cell ∷
    (if b then label_of_cell others place cell ∷ [] else [])) none)

pub combination_bare : (format : TableFormatValue) → format.labels ≡ false
    → (some others : List Grid) (places : List ℕ) (k : Combination)
    → combination_fields format some places k ≡ combination_fields format others places k
combination_bare format none some others places k = λ i. flat_map (λ p. fields_bare format none some others p.0 p.1 i)
    (zip places k)

pub line_bare : (format : TableFormatValue) → format.labels ≡ false
    → (some others : List Grid) (places : List ℕ) (k : Combination)
    → cell_line format some places k ≡ cell_line format others places k
line_bare format none some others places k = ap (line_text format) (combination_bare format none some others places k)

pub pair_bare : (format : TableFormatValue) → format.labels ≡ false
    → (some others : List Grid) (places : List ℕ) (pair : Combination × ℕ)
    → entry_line format some places pair ≡ entry_line format others places pair
pair_bare format none some others places pair =
    ap (λ fields. line_text format (fields ++ count_fields format pair.1))
    (combination_bare format none some others places pair.0)
