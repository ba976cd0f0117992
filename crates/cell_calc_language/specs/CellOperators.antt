-- Operators and functions on cells (r.mapcalc manual; range, division, ties and mixed nulls: profile).
use Rattle.std.specs.Prelude.{ℕ, ℤ, pos, negsuc, int_le, Bool, true, false, not, ◌&&◌, ◌||◌, ◌==◌, nat_le, List, [], ◌∷◌, Some, None, slice_index_or, length, ◌-◌, if◌then◌else◌, filter, fold, count_by}
use Rattle.std.specs.Int.{int_min, int_max}
use Rattle.std.specs.List.{list_any, list_all}
use Rattle.cell_core_values.specs.Cell.{cell_eq, is_category}
use Rattle.cell_core.specs.Grid.{CellValue}

-- the number as a category, or null if it is out of range
abbrev pub category_or_null : ℤ → CellValue
category_or_null n = if is_category n then Some n else None

-- the number is 0
abbrev pub is_zero : ℤ → Bool
is_zero (pos n) = n == 0
is_zero (negsuc n) = false

-- 1 if true, otherwise 0
abbrev pub cell_of_truth_value : Bool → CellValue
cell_of_truth_value b = if b then Some (pos 1) else Some (pos 0)

-- the result for a category; null for null
abbrev pub applied_unless_null : (ℤ → CellValue) → CellValue → CellValue
applied_unless_null f None = None
applied_unless_null f (Some x) = f x

-- the result for two categories; null if either is null
abbrev pub applied_unless_either_null : (ℤ → ℤ → CellValue) → CellValue → CellValue → CellValue
applied_unless_either_null f None b = None
applied_unless_either_null f (Some x) None = None
applied_unless_either_null f (Some x) (Some y) = f x y

-- the cell is null
abbrev pub is_null : CellValue → Bool
is_null None = true
is_null (Some x) = false

-- the cell is 0
abbrev pub is_false : CellValue → Bool
is_false None = false
is_false (Some x) = is_zero x

-- the cell is a category other than 0
abbrev pub is_true : CellValue → Bool
is_true None = false
is_true (Some x) = not (is_zero x)

-- 0 if either is 0; otherwise null if either is null; otherwise 1
abbrev pub and_despite_null : CellValue → CellValue → CellValue
and_despite_null a b = if is_false a || is_false b then Some (pos 0) else (if is_null a || is_null b then None else Some (pos 1))

-- 1 if either is a category other than 0; otherwise null if either is null; otherwise 0
abbrev pub or_despite_null : CellValue → CellValue → CellValue
or_despite_null a b = if is_true a || is_true b then Some (pos 1) else (if is_null a || is_null b then None else Some
    (pos 0))

-- null if the condition is null; otherwise a if it is not 0, and b if it is 0
abbrev pub cell_chosen_by_condition : CellValue → CellValue → CellValue → CellValue
cell_chosen_by_condition None a b = None
cell_chosen_by_condition (Some x) a b = if is_zero x then b else a

-- the smaller and the larger of two cells; null if either is null
abbrev pub lesser : CellValue → CellValue → CellValue
lesser a b = applied_unless_either_null (λ x y. Some (int_min x y)) a b

abbrev pub greater_than_as_cell : CellValue → CellValue → CellValue
greater_than_as_cell a b = applied_unless_either_null (λ x y. Some (int_max x y)) a b

-- the smallest and the largest of some cells; null if any cell is null or there are none
abbrev pub least : List CellValue → CellValue
least [] = None
least (a ∷ xs) = fold lesser a xs

abbrev pub greatest_cell : List CellValue → CellValue
greatest_cell [] = None
greatest_cell (a ∷ xs) = fold greater_than_as_cell a xs

-- the cells that are not null
abbrev pub non_null_cells : List CellValue → List CellValue
non_null_cells xs = filter (λ a. not (is_null a)) xs

-- the number of times that a cell occurs in a list
abbrev pub occurrences : CellValue → List CellValue → ℕ
occurrences v xs = count_by (cell_eq v) xs

-- no cell in the list occurs more often than v
abbrev pub is_most_frequent_cell : List CellValue → CellValue → Bool
is_most_frequent_cell xs v = list_all (λ w. nat_le (occurrences w xs) (occurrences v xs)) xs

-- the smallest of the cells that occur most often
abbrev pub most_frequent : List CellValue → CellValue
most_frequent xs = least (filter (is_most_frequent_cell xs) xs)

-- the smallest of the cells that occur most often; null if any is null
abbrev pub mode : List CellValue → CellValue
mode xs = if list_any is_null xs then None else most_frequent xs

-- the first cell; null if there is none
abbrev pub first_argument_cell : List CellValue → CellValue
first_argument_cell [] = None
first_argument_cell (a ∷ xs) = a

-- the last cell; null if there is none
abbrev pub last_argument_cell : List CellValue → CellValue
last_argument_cell xs = slice_index_or xs (length xs - 1) None

-- if(x) means if(x,1,0), and if(x,a) means if(x,a,0)
abbrev pub if_call_value : List CellValue → CellValue
if_call_value (x ∷ []) = cell_chosen_by_condition x (Some (pos 1)) (Some (pos 0))
if_call_value (x ∷ a ∷ []) = cell_chosen_by_condition x a (Some (pos 0))
if_call_value (x ∷ a ∷ b ∷ []) = cell_chosen_by_condition x a b
if_call_value _ = None
