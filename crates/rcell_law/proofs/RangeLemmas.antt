-- Cells calculated from cells in the range of categories are in that range.
use Rattle.std.proofs.Common.{◌≡◌, ℕ, ℤ, pos, negsuc, ◌+◌, ◌<◌, ◌≤◌, ◌+ℤ◌, ◌-◌, Bool, true, false, cond, not, ◌||◌}
use Rattle.std.proofs.Common.{List, [], ◌∷◌}
use Rattle.std.proofs.Common.{length, fold, get_or, Option, Some, None, refl, sym, subst, arith, ⊎_elim}
use Rattle.std.specs.Prelude.{slice_get, All, if◌then◌else◌, filter, int_lt, int_le, int_div, ◌-ℤ◌}
use Rattle.std.specs.Prelude.{◌*ℤ◌, ◌&&◌, neg_ℤ, unsigned_abs}
use Rattle.std.specs.List.{list_any}
use Rattle.std.proofs.lemmas.Bool.{cases_lt}
use Rattle.std.proofs.lemmas.List.{get_or_past}
use Rattle.std.proofs.lemmas.List.Elements.{All-nil, All-cons, All-head, All-tail, All-get_or, All-filter}
use Rattle.std.proofs.lemmas.Option.{slice_get_within, get_or_from_slice_get}
use Rattle.cell_core.specs.Grid.{Grid, CellValue}
use Rattle.cell_calc_grammar.specs.declared.function.Function.{Function}
use Rattle.cell_calc_grammar.specs.declared.function.Function.TheVariants as function
use Rattle.cell_calc_grammar.specs.declared.operator.Operator.{Operator}
use Rattle.cell_calc_grammar.specs.declared.operator.Operator.TheVariants as operator
use Rattle.cell_calc_language.specs.Applied.{PositionAndGridSize, operator_value, call_result}
use Rattle.cell_calc_language.specs.CellOperators.{category_or_null, is_zero, is_null, cell_of_truth_value}
use Rattle.cell_calc_language.specs.CellOperators.{applied_unless_null}
use Rattle.cell_calc_language.specs.CellOperators.{applied_unless_either_null}
use Rattle.cell_core_values.specs.Cell.{is_category}
use Rattle.cell_calc_language.specs.CellOperators.{is_false, is_true, cell_chosen_by_condition, lesser}
use Rattle.cell_calc_language.specs.CellOperators.{greater_than_as_cell, least}
use Rattle.cell_calc_language.specs.CellOperators.{greatest_cell}
use Rattle.cell_calc_language.specs.CellOperators.{non_null_cells, most_frequent}
use Rattle.cell_calc_language.specs.CellOperators.{is_most_frequent_cell, first_argument_cell, if_call_value}
use Rattle.cell_calc_language.specs.Offsets.{item_at_integer_or_default, cell_of_optional_map}
use Rattle.cell_calc_language.specs.Formula.{Formula, Number, Map, Negated, Not, Binary, Call, ArgumentFormulas}
use Rattle.cell_calc_language.specs.Formula.{NoTrees}
use Rattle.cell_calc_language.specs.Formula.{Then}
use Rattle.cell_calc_language.specs.Value.{value, argument_values}
use Rattle.rcell_law.proofs.DenotedLemmas.{AllInRange, InRange, number-in}

-- ---- operators

fit_in : (n : ℤ) → InRange (category_or_null n)
fit_in n = by (is_category n) refl
  where
    by : (b : Bool) → is_category n ≡ b → InRange (if b then Some n else None)
    by true e = e
    by false e = tt

truth_in : (b : Bool) → InRange (cell_of_truth_value b)
truth_in true = number-in 1 (omega arith)
truth_in false = number-in 0 (omega arith)

one_in : (f : ℤ → CellValue) → ((x : ℤ) → InRange (f x)) → (a : CellValue) → InRange (applied_unless_null f a)
one_in f h None = tt
one_in f h (Some x) = h x

both_in : (f : ℤ → ℤ → CellValue) → ((x y : ℤ) → InRange (f x y)) → (a b : CellValue)
    → InRange (applied_unless_either_null f a b)
both_in f h (Some x) (Some y) = h x y
both_in f h _ _ = tt

if_in : (t : Bool) (a b : CellValue) → InRange a → InRange b → InRange (if t then a else b)
if_in true a b h k = h
if_in false a b h k = k

fitted_in : (g : ℤ → ℤ → ℤ) (a b : CellValue) → InRange (applied_unless_either_null
    (λ x y. category_or_null (g x y)) a b)
fitted_in g a b = both_in (λ x y. category_or_null (g x y)) (λ x y. fit_in (g x y)) a b

divided_in : (g : ℤ → ℤ → ℤ) (a b : CellValue) → InRange (applied_unless_either_null
    (λ x y. if is_zero y then None else category_or_null (g x y)) a b)
divided_in g a b =
    both_in (λ x y. if is_zero y then None else category_or_null (g x y))
    (λ x y. if_in (is_zero y) None (category_or_null (g x y)) tt (fit_in (g x y))) a b

tested_in : (t : ℤ → ℤ → Bool) (a b : CellValue) → InRange (applied_unless_either_null
    (λ x y. cell_of_truth_value (t x y)) a b)
tested_in t a b = both_in (λ x y. cell_of_truth_value (t x y)) (λ x y. truth_in (t x y)) a b

applied_in : (op : Operator) (a b : CellValue) → InRange (operator_value op a b)
applied_in operator.Times a b = fitted_in (λ x y. x *ℤ y) a b
applied_in operator.Divide a b = divided_in int_div a b
applied_in operator.Modulo a b = divided_in (λ x y. x -ℤ (y *ℤ int_div x y)) a b
applied_in operator.Plus a b = fitted_in (λ x y. x +ℤ y) a b
applied_in operator.Minus a b = fitted_in (λ x y. x -ℤ y) a b
applied_in operator.Less a b = tested_in int_lt a b
applied_in operator.LessEqual a b = tested_in int_le a b
applied_in operator.Greater a b = tested_in (λ x y. int_lt y x) a b
applied_in operator.GreaterEqual a b = tested_in (λ x y. int_le y x) a b
applied_in operator.Equal a b = tested_in (λ x y. int_le x y && int_le y x) a b
applied_in operator.NotEqual a b = tested_in (λ x y. not (int_le x y && int_le y x)) a b
applied_in operator.And a b = tested_in (λ x y. not (is_zero x) && not (is_zero y)) a b
applied_in operator.Or a b = tested_in (λ x y. not (is_zero x) || not (is_zero y)) a b
applied_in operator.KnownAnd a b =
    if_in (is_false a || is_false b) (Some (pos 0)) (if is_null a || is_null b then None else Some (pos 1))
    (number-in 0 (omega arith))
    (if_in (is_null a || is_null b) None (Some (pos 1)) tt (number-in 1 (omega arith)))
applied_in operator.KnownOr a b =
    if_in (is_true a || is_true b) (Some (pos 1)) (if is_null a || is_null b then None else Some (pos 0))
    (number-in 1 (omega arith))
    (if_in (is_null a || is_null b) None (Some (pos 0)) tt (number-in 0 (omega arith)))

-- ---- functions

chosen_in : (x a b : CellValue) → InRange a → InRange b → InRange (cell_chosen_by_condition x a b)
chosen_in None a b h k = tt
chosen_in (Some x) a b h k = if_in (is_zero x) b a k h

of_two : (t : Bool) (x y : ℤ) → InRange (Some x) → InRange (Some y) → InRange (Some (cond t x y))
of_two true x y h k = h
of_two false x y h k = k

lesser_in : (a b : CellValue) → InRange a → InRange b → InRange (lesser a b)
lesser_in (Some x) (Some y) h k = of_two (int_lt y x) y x k h
lesser_in _ _ h k = tt

greater_in : (a b : CellValue) → InRange a → InRange b → InRange (greater_than_as_cell a b)
greater_in (Some x) (Some y) h k = of_two (int_lt y x) x y h k
greater_in _ _ h k = tt

fold_in : (f : CellValue → CellValue → CellValue) → ((a b : CellValue) → InRange a → InRange b → InRange (f a b)) →
    (a : CellValue) (xs : List CellValue) → InRange a → All InRange xs → InRange (fold f a xs)
fold_in f step a [] h all = h
fold_in f step a (x ∷ xs) h all = fold_in f step (f a x) xs (step a x h (All-head InRange x xs all))
    (All-tail InRange x xs all)

least_in : (xs : List CellValue) → All InRange xs → InRange (least xs)
least_in [] all = tt
least_in (x ∷ xs) all = fold_in lesser lesser_in x xs (All-head InRange x xs all) (All-tail InRange x xs all)

greatest_of_number_and_cells : (xs : List CellValue) → All InRange xs → InRange (greatest_cell xs)
greatest_of_number_and_cells [] all = tt
greatest_of_number_and_cells (x ∷ xs) all = fold_in greater_than_as_cell greater_in x xs (All-head InRange x xs all)
    (All-tail InRange x xs all)

known_in : (xs : List CellValue) → All InRange xs → All InRange (non_null_cells xs)
known_in xs all = All-filter (λ a. not (is_null a)) InRange xs all

frequent_in : (xs : List CellValue) → All InRange xs → InRange (most_frequent xs)
frequent_in xs all = least_in (filter (is_most_frequent_cell xs) xs)
    (All-filter (is_most_frequent_cell xs) InRange xs all)

pub item_in : (xs : List CellValue) (i : ℕ) → All InRange xs → InRange (get_or xs i None)
item_in xs i all =
    ⊎_elim (λ lt. All-get_or InRange xs i None lt all) (λ le. subst InRange (sym (get_or_past xs i None le)) tt)
    (cases_lt i (length xs))

if_of_in : (xs : List CellValue) → All InRange xs → InRange (if_call_value xs)
if_of_in (x ∷ []) all = chosen_in x (Some (pos 1)) (Some (pos 0)) (number-in 1 (omega arith))
    (number-in 0 (omega arith))
if_of_in (x ∷ a ∷ []) all = chosen_in x a (Some (pos 0)) (item_in (x ∷ a ∷ []) 1 all) (number-in 0 (omega arith))
if_of_in (x ∷ a ∷ b ∷ []) all = chosen_in x a b (item_in (x ∷ a ∷ b ∷ []) 1 all) (item_in (x ∷ a ∷ b ∷ []) 2 all)
if_of_in _ all = tt

-- a row and a column inside a region
pub record IsPosition (s : PositionAndGridSize) : Type 0 where
  pub row : s.row < s.rows
  pub col : s.col < s.cols
  pub rows : s.rows ≤ 65535
  pub cols : s.cols ≤ 65535

result_in : (f : Function) (s : PositionAndGridSize) (xs : List CellValue) → IsPosition s → All InRange xs
    → InRange (call_result f s xs)
result_in function.If s xs is all = if_of_in xs all
result_in function.IsNull s xs is all = truth_in (is_null (first_argument_cell xs))
result_in function.Null s xs is all = tt
result_in function.Abs s xs is all = one_in (λ x. category_or_null (pos (unsigned_abs x)))
    (λ x. fit_in (pos (unsigned_abs x)))
    (first_argument_cell xs)
result_in function.Min s xs is all = least_in xs all
result_in function.Max s xs is all = greatest_of_number_and_cells xs all
result_in function.Mode s xs is all = if_in (list_any is_null xs) None (most_frequent xs) tt (frequent_in xs all)
result_in function.Row s xs is all = number-in (s.row + 1) (let a = is.row in let b = is.rows in omega (arith, a, b))
result_in function.Column s xs is all = number-in (s.col + 1) (let a = is.col in let b = is.cols in omega (arith, a, b))
result_in function.RowCount s xs is all = number-in s.rows (let b = is.rows in omega (arith, b))
result_in function.ColumnCount s xs is all = number-in s.cols (let b = is.cols in omega (arith, b))
result_in function.Eval s xs is all = item_in xs (length xs - 1) all
result_in function.KnownMin s xs is all = least_in (non_null_cells xs) (known_in xs all)
result_in function.KnownMax s xs is all = greatest_of_number_and_cells (non_null_cells xs) (known_in xs all)
result_in function.KnownMode s xs is all = frequent_in (non_null_cells xs) (known_in xs all)

-- ---- expressions

abbrev mutual
  -- the numbers in an expression are categories
  pub HasCategories : Formula → Type 0
  HasCategories (Number n) = n ≤ 2147483647
  HasCategories (Map i down right) = Unit {0}
  HasCategories (Negated a) = HasCategories a
  HasCategories (Not a) = HasCategories a
  HasCategories (Binary op a b) = HasCategories a × HasCategories b
  HasCategories (Call f xs) = HaveCategories xs

  pub HaveCategories : ArgumentFormulas → Type 0
  HaveCategories NoTrees = Unit {0}
  HaveCategories (Then a xs) = HasCategories a × HaveCategories xs

row_in : (rows : List (List CellValue)) (i : ℕ) → AllInRange rows → All InRange (get_or rows i [])
row_in rows i all =
    ⊎_elim (λ lt. All-get_or (λ row. All InRange row) rows i [] lt all)
    (λ le. subst (All InRange) (sym (get_or_past rows i [] le)) (All-nil InRange)) (cases_lt i (length rows))

any_row_in : (rows : List (List CellValue)) (z : ℤ) → AllInRange rows
    → All InRange (item_at_integer_or_default [] rows z)
any_row_in rows (pos i) all = row_in rows i all
any_row_in rows (negsuc i) all = All-nil InRange

any_item_in : (row : List CellValue) (z : ℤ) → All InRange row → InRange (item_at_integer_or_default None row z)
any_item_in row (pos i) all = item_in row i all
any_item_in row (negsuc i) all = tt

map_in : (maps : List Grid) (o : Option Grid) (i : ℕ) (r c : ℤ) → slice_get maps i ≡ o → All
    (λ m. AllInRange m.rows) maps → InRange (cell_of_optional_map o r c)
map_in maps None i r c there all = tt
map_in maps (Some m) i r c there all =
    let m_in : AllInRange m.rows = subst (λ (g : Grid). AllInRange g.rows) (get_or_from_slice_get maps i m m there)
    (All-get_or (λ (g : Grid). AllInRange g.rows) maps i m (slice_get_within maps i m there) all) in
    any_item_in (item_at_integer_or_default [] m.rows r) c (any_row_in m.rows r m_in)

module _ (maps : List Grid) (all : All (λ m. AllInRange m.rows) maps) (s : PositionAndGridSize)
    (is : IsPosition s) where
  mutual
    pub value_in : (f : Formula) → HasCategories f → InRange (value f maps s)
    value_in (Number n) h = number-in n h
    value_in (Map i down right) h = map_in maps (slice_get maps i) i (pos s.row +ℤ down) (pos s.col +ℤ right) refl all
    value_in (Negated a) h = one_in (λ x. category_or_null (neg_ℤ x)) (λ x. fit_in (neg_ℤ x)) (value a maps s)
    value_in (Not a) h = one_in (λ x. cell_of_truth_value (is_zero x)) (λ x. truth_in (is_zero x)) (value a maps s)
    value_in (Binary op a b) h = applied_in op (value a maps s) (value b maps s)
    value_in (Call g xs) h = result_in g s (argument_values xs maps s) is (values_in xs h)

    values_in : (xs : ArgumentFormulas) → HaveCategories xs → All InRange (argument_values xs maps s)
    values_in NoTrees h = All-nil InRange
    values_in (Then a xs) h = All-cons InRange (value a maps s) (argument_values xs maps s) (value_in a h.0)
        (values_in xs h.1)
