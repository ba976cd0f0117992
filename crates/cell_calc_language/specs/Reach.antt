-- The maps that an expression reads, and the number of rows that it reads above and below a cell.
use Rattle.std.specs.Prelude.{◌<◌, ◌^◌, ℕ, ℤ, ◌+◌, max, ◌==◌, if◌then◌else◌}
use Rattle.cell_calc_grammar.specs.Tree.{fold_maps, fold_all}
use Rattle.cell_calc_language.specs.Formula.{Formula, ArgumentFormulas}
use Rattle.cell_calc_language.specs.Grammatical.{cell_count_up_or_left, cell_count_down_or_right, IsGrammatical}

-- one more than an index
abbrev pub map_place_limit_at_offset : (place : ℕ) (down right : ℤ) → ℕ
map_place_limit_at_offset i down right = i + 1

-- the number of rows up in an offset, if it is an offset of map i
abbrev pub rows_read_above_at_offset : ℕ → (place : ℕ) (down right : ℤ) → ℕ
rows_read_above_at_offset i j down right = if i == j then cell_count_up_or_left down else 0

-- the number of rows down in an offset, if it is an offset of map i
abbrev pub rows_read_below_at_offset : ℕ → (place : ℕ) (down right : ℤ) → ℕ
rows_read_below_at_offset i j down right = if i == j then cell_count_down_or_right down else 0

-- one more than the largest map index, or 0 if no map is read
abbrev pub map_place_limit_of_formula : Formula → ℕ
map_place_limit_of_formula f = fold_maps map_place_limit_at_offset 0 max f

abbrev pub map_place_limit_of_formulas : ArgumentFormulas → ℕ
map_place_limit_of_formulas xs = fold_all map_place_limit_at_offset 0 max xs

-- the largest number of rows up in an offset of map i
abbrev pub rows_read_above_by_formula : ℕ → Formula → ℕ
rows_read_above_by_formula i f = fold_maps (rows_read_above_at_offset i) 0 max f

abbrev pub rows_read_above_by_formulas : ℕ → ArgumentFormulas → ℕ
rows_read_above_by_formulas i xs = fold_all (rows_read_above_at_offset i) 0 max xs

-- the largest number of rows down in an offset of map i
abbrev pub rows_read_below_by_formula : ℕ → Formula → ℕ
rows_read_below_by_formula i f = fold_maps (rows_read_below_at_offset i) 0 max f

abbrev pub rows_read_below_by_formulas : ℕ → ArgumentFormulas → ℕ
rows_read_below_by_formulas i xs = fold_all (rows_read_below_at_offset i) 0 max xs

-- the guarantees of the language: numbers are categories, offsets are within ±255, arguments are allowed; and indices
-- fit in 64 bits
abbrev pub FormulaIsWithinLimits : Formula → Type 0
FormulaIsWithinLimits f = IsGrammatical f × (map_place_limit_of_formula f < 2 ^ 64)
