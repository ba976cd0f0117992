-- Arguments of functions, column by column.
use Rattle.std.proofs.Common.{◌≡◌, ◌<◌, ◌≤◌, ◌+◌, ◌-◌, ℕ, ℤ, zero, suc, List, [], ◌∷◌, length, take, drop, map, get_or}
use Rattle.std.proofs.Common.{refl, sym, ap, subst, ◌∙◌, arith, Some, None}
use Rattle.std.specs.Prelude.{fold}
use Rattle.std.specs.Int.{int_min, int_max}
use Rattle.std.proofs.lemmas.List.{length-map, take_all}
use Rattle.std.proofs.lemmas.List.Sums.{fold_more}
use Rattle.cell_core.specs.Grid.{CellValue}
use Rattle.cell_calc_modes.specs.ColumnCells.{at, cells_at_column}
use Rattle.cell_calc_language.specs.CellOperators.{lesser, greater_than_as_cell, least, greatest_cell, non_null_cells}
use Rattle.cell_calc_language.specs.CellOperators.{last_argument_cell}
use Rattle.cell_calc_language.specs.Joins.{known_lesser, greater_ignoring_null}

-- a column has one cell per argument
pub column_length : {V : Type 0} (f : V → List CellValue) (xs : List V) (k : ℕ)
    → length (cells_at_column k (map f xs)) ≡ length xs
column_length f xs k = length-map (map f xs) (λ row. at row k) ∙ length-map xs f

-- a cell of a column is a cell of its argument's row
pub column_item : {V : Type 0} (f : V → List CellValue) (xs : List V) (i k : ℕ) (x : V)
    → i < length xs → x ≡ get_or xs i x → get_or (cells_at_column k (map f xs)) i None ≡ at (f x) k
column_item f [] i k x lt is = absurd (let no : ⊥ = omega arith in no)
column_item f (y ∷ xs) zero k x lt is = ap (λ v. at (f v) k) (sym is)
column_item f (y ∷ xs) (suc i) k x lt is = column_item f xs i k x (omega arith) is

-- a row of cells has the same width as each argument
pub item_width : {V : Type 0} (f : V → List CellValue) (xs : List V) (width i : ℕ) (x : V) (row : List CellValue)
    → ((k : ℕ) (d : V) → k < length xs → length (f (get_or xs k d)) ≡ width)
    → i < length xs → x ≡ get_or xs i x → row ≡ f x → length row ≡ width
item_width f xs width i x row all lt is same = ap (λ l. length l) same ∙ ap (λ v. length (f v)) is ∙ all i x lt

-- a list of fewer than one argument is empty
pub no_items : {V : Type 0} (xs : List V) → length xs < 1 → xs ≡ []
no_items [] few = refl
no_items (x ∷ xs) few = absurd (let no : ⊥ = omega arith in no)

-- the index of the last argument is within the arguments
pub last_before : (n : ℕ) → 1 ≤ n → n - 1 < n
last_before n some = omega arith

pub last_item : {V : Type 0} (f : V → List CellValue) (xs : List V) (k : ℕ) (x : V) → 1 ≤ length xs
    → x ≡ get_or xs (length xs - 1) x → last_argument_cell (cells_at_column k (map f xs)) ≡ at (f x) k
last_item f xs k x some is =
    rw (column_length f xs k) (column_item f xs (length xs - 1) k x (last_before (length xs) some) is)

-- folding one more argument adds its cell
pub fold_step : {V S : Type 0} (f : V → List CellValue) (g : S → CellValue → S) (a : S) (xs : List V) (i k : ℕ) (x : V)
    (b new : S) (other : List CellValue)
    → i < length xs → x ≡ get_or xs i x → other ≡ f x → b ≡ fold g a (take i (cells_at_column k (map f xs)))
    → new ≡ g b (at other k)
    → new ≡ fold g a (take (i + 1) (cells_at_column k (map f xs)))
fold_step f g a xs i k x b new other lt is slice was each =
    let cells : List CellValue = cells_at_column k (map f xs) in
    let within : i < length (cells_at_column k (map f xs)) = rw (column_length f xs k) lt in
    each ∙ ap (λ o. g b (at o k)) slice ∙ ap (λ v. g v (at (f x) k)) was
    ∙ ap (λ v. g (fold g a (take i (cells_at_column k (map f xs)))) v) (sym (column_item f xs i k x lt is))
    ∙ sym (fold_more g a (cells_at_column k (map f xs)) i None within)

-- folding all arguments folds the full column
pub fold_all : {V : Type 0} (f : V → List CellValue) (g : CellValue → CellValue
    → CellValue) (a : CellValue) (xs : List V) (i k : ℕ) (r : CellValue)
    → length xs ≤ i → r ≡ fold g a (take i (cells_at_column k (map f xs))) → r ≡ fold g a (cells_at_column k (map f xs))
fold_all f g a xs i k r le is = is
    ∙ ap (λ l. fold g a l) (take_all i (cells_at_column k (map f xs)) (rw (column_length f xs k) le))

-- all arguments except the first are the rest of the list
others_are : {V : Type 0} (y : V) (ys : List V) → take (length (y ∷ ys) - 1) (drop 1 (y ∷ ys)) ≡ ys
others_are y ys = take_all (length (y ∷ ys) - 1) ys (omega arith)

pub other_width : {V : Type 0} (f : V → List CellValue) (xs : List V) (width i : ℕ) (x : V) (row : List CellValue)
    → ((k : ℕ) (d : V) → k < length xs → length (f (get_or xs k d)) ≡ width)
    → i < length (take (length xs - 1) (drop 1 xs)) → x ≡ get_or (take (length xs - 1) (drop 1 xs)) i x → row ≡ f x
    → length row ≡ width
other_width f [] width i x row all lt is same = absurd (let no : ⊥ = omega arith in no)
other_width f (y ∷ ys) width i x row all lt is same =
    let below : i < length ys = subst (λ l. i < length l) (others_are y ys) lt in
    item_width f (y ∷ ys) width (suc i) x row all (omega (arith, below)) (subst (λ l. x
    ≡ get_or l i x) (others_are y ys) is) same

pub least_all : {V : Type 0} (f : V
    → List CellValue) (args : List V) (i k : ℕ) (first : V) (start : List CellValue) (r : CellValue)
    → 1 ≤ length args → first ≡ get_or args 0 first → start ≡ f first
    → length (take (length args - 1) (drop 1 args)) ≤ i
    → r ≡ fold lesser (at start k) (take i (cells_at_column k (map f (take (length args - 1) (drop 1 args)))))
    → r ≡ least (cells_at_column k (map f args))
least_all f [] i k first start r some is from le e = absurd (let no : ⊥ = omega arith in no)
least_all f (y ∷ ys) i k first start r some is from le e =
    let all = fold_all f lesser (at start k) (take (length (y ∷ ys) - 1) (drop 1 (y ∷ ys))) i k r le e in
    all ∙ ap (λ l. fold lesser (at start k) (cells_at_column k (map f l))) (others_are y ys)
    ∙ ap (λ s. fold lesser (at s k) (cells_at_column k (map f ys))) (from ∙ ap f is)

pub greatest_all : {V : Type 0} (f : V
    → List CellValue) (args : List V) (i k : ℕ) (first : V) (start : List CellValue) (r : CellValue)
    → 1 ≤ length args → first ≡ get_or args 0 first → start ≡ f first
    → length (take (length args - 1) (drop 1 args)) ≤ i
    → r ≡ fold greater_than_as_cell (at start k) (take i (cells_at_column k
    (map f (take (length args - 1) (drop 1 args)))))
    → r ≡ greatest_cell (cells_at_column k (map f args))
greatest_all f [] i k first start r some is from le e = absurd (let no : ⊥ = omega arith in no)
greatest_all f (y ∷ ys) i k first start r some is from le e =
    let all = fold_all f greater_than_as_cell (at start k) (take (length (y ∷ ys) - 1) (drop 1 (y ∷ ys))) i k r le e in
    all ∙ ap (λ l. fold greater_than_as_cell (at start k) (cells_at_column k (map f l))) (others_are y ys)
    ∙ ap (λ s. fold greater_than_as_cell (at s k) (cells_at_column k (map f ys))) (from ∙ ap f is)

-- the smallest and the largest known cells are found one cell at a time
lesser_from : (v : ℤ) (xs : List CellValue) → fold known_lesser (Some v) xs ≡ fold lesser (Some v) (non_null_cells xs)
lesser_from v [] = refl
lesser_from v (None ∷ xs) = lesser_from v xs
lesser_from v (Some w ∷ xs) = lesser_from (int_min v w) xs

pub known_least_is : (xs : List CellValue) → fold known_lesser None xs ≡ least (non_null_cells xs)
known_least_is [] = refl
known_least_is (None ∷ xs) = known_least_is xs
known_least_is (Some w ∷ xs) = lesser_from w xs

greater_from : (v : ℤ) (xs : List CellValue) → fold greater_ignoring_null (Some v) xs
    ≡ fold greater_than_as_cell (Some v) (non_null_cells xs)
greater_from v [] = refl
greater_from v (None ∷ xs) = greater_from v xs
greater_from v (Some w ∷ xs) = greater_from (int_max v w) xs

pub known_greatest_is : (xs : List CellValue) → fold greater_ignoring_null None xs ≡ greatest_cell (non_null_cells xs)
known_greatest_is [] = refl
known_greatest_is (None ∷ xs) = known_greatest_is xs
known_greatest_is (Some w ∷ xs) = greater_from w xs

-- taking at least as many cells as there are arguments gives the full column
pub whole : {V : Type 0} (f : V → List CellValue) (xs : List V) (i k : ℕ) → length xs ≤ i
    → take i (cells_at_column k (map f xs)) ≡ cells_at_column k (map f xs)
whole f xs i k le = take_all i (cells_at_column k (map f xs)) (rw (column_length f xs k) le)
