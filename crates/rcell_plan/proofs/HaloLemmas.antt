-- An expression reads the same cells from a part of the maps as from the full maps.
use Rattle.std.proofs.Common.{◌≡◌, ℕ, zero, suc, ℤ, pos, negsuc, ◌+◌, ◌-◌, ◌<◌, ◌≤◌, ◌+ℤ◌, max, List, [], ◌∷◌, take, drop, length, get_or, Some, None, Bool, true, false, ◌||◌, cond, eqb, eq-eqb, refl, ap, sym, ◌∙◌, arith, inl, inr, ⊎_elim, ◌⊎◌}
use Rattle.std.specs.Prelude.{All, slice_get}
use Rattle.std.proofs.Math.IntN.{sub_ℕ}
use Rattle.std.proofs.Math.Nat.{le-max_left, le-max_right}
use Rattle.std.proofs.lemmas.Bool.{cases_lt, le-ltb, lt-ltb}
use Rattle.std.proofs.lemmas.List.{get_or-take, get_or-drop, get_or_past}
use Rattle.cell_core_values.specs.Region.{RegionValue}
use Rattle.cell_core.specs.Grid.{Grid, CellValue, RowsFillRegion}
use Rattle.cell_calc_grammar.specs.declared.function.Function.{Function}
use Rattle.cell_calc_grammar.specs.declared.function.Function.TheVariants as function
use Rattle.cell_calc_language.specs.Grammatical.{cell_count_up_or_left, cell_count_down_or_right}
use Rattle.cell_calc_language.specs.Applied.{PositionAndGridSize, grid_position, negated_cell, logical_negation_of_cell, operator_value, call_result}
use Rattle.cell_calc_language.specs.Offsets.{item_at_integer_or_default, cell_of_map_or_null, cell_of_optional_map}
use Rattle.cell_calc_language.specs.Formula.{Formula, Number, Map, Negated, Not, Binary, Call, ArgumentFormulas}
use Rattle.cell_calc_language.specs.Formula.{NoTrees, Then}
use Rattle.cell_calc_language.specs.Reach.{rows_read_above_by_formula, rows_read_below_by_formula}
use Rattle.cell_calc_language.specs.Reach.{rows_read_above_by_formulas, rows_read_below_by_formulas}
use Rattle.cell_calc_language.specs.Value.{value, argument_values}
use Rattle.cell_join_numbers.specs.Parts.{Rectangle, RowsAreCutOutOfMaps, cells_of_rectangle}
use Rattle.cell_join_numbers.proofs.CutLemmas.{length-take-most, nothing-cut, row-cut, first-or}
use Rattle.rcell_plan.specs.HaloParts.{columns_read_left_by_formula, columns_read_left_by_formulas, columns_read_right_by_formula, columns_read_right_by_formulas, calls, call_any, is_row_or_nrows_function, is_col_or_ncols_function, HaloIsEnough, value_seen_from, values_seen_from, ReachAndPositionAreEnough}

-- ---- an item of a part of a list, at an offset

-- an item of a part is the item of the list, if its index is within the part or the part ends where the list ends
window : {A : Type 0} (outside : A) (xs : List A) (first height total i : ℕ) → length xs ≤ total → ((total ≤ first + height) ⊎ (i < height)) → get_or (take height (drop first xs)) i outside ≡ get_or xs (first + i) outside
window outside xs first height total i most (inr within) = get_or-take height (drop first xs) i outside within ∙ get_or-drop first xs i outside
window outside xs first height total i most (inl ends) =
    ⊎_elim (λ within. get_or-take height (drop first xs) i outside within ∙ get_or-drop first xs i outside)
    (λ past.
    let short : length (take height (drop first xs)) ≤ i = omega (arith, length-take-most height (drop first xs), past) in
    let long : length xs ≤ first + i = omega (arith, most, ends, past) in
    get_or_past (take height (drop first xs)) i outside short ∙ sym (get_or_past xs (first + i) outside long))
    (cases_lt i height)

pub sub-pos : (p n : ℕ) → suc n ≤ p → sub_ℕ p (suc n) ≡ pos (p - suc n)
sub-pos p n le = ap (λ b. cond b (negsuc (suc n - suc p)) (pos (p - suc n))) (le-ltb p (suc n) le)

module _ {A : Type 0} (outside : A) (xs : List A) (first height total p : ℕ) (most : length xs ≤ total) where
  pub item-window : (d : ℤ) → (first ≡ 0) ⊎ (cell_count_up_or_left d ≤ p) → (total ≤ first + height) ⊎ (p + cell_count_down_or_right d < height) → item_at_integer_or_default outside (take height (drop first xs)) (pos p +ℤ d) ≡ item_at_integer_or_default outside xs (pos (first + p) +ℤ d)
  item-window (pos n) up down =
      let on : first + (p + n) ≡ first + p + n = omega arith in
      window outside xs first height total (p + n) most down ∙ ap (λ i. get_or xs i outside) on
  item-window (negsuc n) up down = ⊎_elim short (λ le. long le) (cases_lt p (suc n))
    where
      here : (total ≤ first + height) ⊎ (p + 0 < height) → (i : ℕ) → i ≤ p → (total ≤ first + height) ⊎ (i < height)
      here (inl ends) i le = inl ends
      here (inr lt) i le = inr (omega (arith, lt, le))

      long : suc n ≤ p → item_at_integer_or_default outside (take height (drop first xs)) (pos p +ℤ negsuc n) ≡ item_at_integer_or_default outside xs (pos (first + p) +ℤ negsuc n)
      long le =
          let on : first + (p - suc n) ≡ first + p - suc n = omega (arith, le) in
          let too : suc n ≤ first + p = omega (arith, le) in
          let less : p - suc n ≤ p = omega arith in
          ap (item_at_integer_or_default outside (take height (drop first xs))) (sub-pos p n le)
          ∙ window outside xs first height total (p - suc n) most (here down (p - suc n) less)
          ∙ ap (λ i. get_or xs i outside) on
          ∙ ap (item_at_integer_or_default outside xs) (sym (sub-pos (first + p) n too))

      none : (ys : List A) → p < suc n → item_at_integer_or_default outside ys (pos p +ℤ negsuc n) ≡ outside
      none ys lt = ap (λ b. item_at_integer_or_default outside ys (cond b (negsuc (suc n - suc p)) (pos (p - suc n)))) (lt-ltb p (suc n) lt)

      short : p < suc n → item_at_integer_or_default outside (take height (drop first xs)) (pos p +ℤ negsuc n) ≡ item_at_integer_or_default outside xs (pos (first + p) +ℤ negsuc n)
      short lt =
          let none_up : first ≡ 0 = ⊎_elim (λ e. e) (λ le. absurd (omega (arith, le, lt))) up in
          let same : first + p ≡ p = omega (arith, none_up) in
          none (take height (drop first xs)) lt ∙ sym (none xs lt) ∙ ap (λ i. item_at_integer_or_default outside xs (pos i +ℤ negsuc n)) (sym same)

-- ---- a cell of a part, at offsets

-- the row of a part at any index is a part of the full row at that index
row-item : (r : Rectangle) (rows : List (List CellValue)) (z : ℤ) → item_at_integer_or_default [] (cells_of_rectangle r rows) z ≡ take r.cols (drop r.left (item_at_integer_or_default [] (take r.rows (drop r.top rows)) z))
row-item r rows (pos i) = row-cut r rows i
row-item r rows (negsuc i) = sym (nothing-cut r.cols r.left)

-- no row has more cells than the region has columns
row-length : (cols : ℕ) (rows : List (List CellValue)) → All (λ row. length row ≡ cols) rows → (z : ℤ) → length (item_at_integer_or_default [] rows z) ≤ cols
row-length cols rows wide (pos i) =
    ⊎_elim (λ within. let e = wide i [] within in omega (arith, e))
    (λ past. let e : length (get_or rows i []) ≡ 0 = ap length (get_or_past rows i [] past) in omega (arith, e))
    (cases_lt i (length rows))
row-length cols rows wide (negsuc i) = omega arith

-- ---- the conditions for any part of an expression

record IsHalo (region : RegionValue) (r : Rectangle) (row col : ℕ) (ups downs lefts rights : ℕ → ℕ) (asks_r asks_c : Bool) : Type 0 where
  up : (place : ℕ) → (r.top ≡ 0) ⊎ (ups place ≤ row)
  down : (place : ℕ) → (region.rows ≤ r.top + r.rows) ⊎ (row + downs place < r.rows)
  left : (place : ℕ) → (r.left ≡ 0) ⊎ (lefts place ≤ col)
  right : (place : ℕ) → (region.cols ≤ r.left + r.cols) ⊎ (col + rights place < r.cols)
  rows : (asks_r ≡ false) ⊎ ((r.top ≡ 0) × (r.rows ≡ region.rows))
  cols : (asks_c ≡ false) ⊎ ((r.left ≡ 0) × (r.cols ≡ region.cols))

le-least : {X : Type 0} (m n k : ℕ) → m ≤ n → X ⊎ (n ≤ k) → X ⊎ (m ≤ k)
le-least m n k le (inl x) = inl x
le-least m n k le (inr h) = inr (omega (arith, le, h))

lt-least : {X : Type 0} (m n k p : ℕ) → m ≤ n → X ⊎ (p + n < k) → X ⊎ (p + m < k)
lt-least m n k p le (inl x) = inl x
lt-least m n k p le (inr h) = inr (omega (arith, le, h))

or-first : {X : Type 0} (a b : Bool) → ((a || b) ≡ false) ⊎ X → (a ≡ false) ⊎ X
or-first true b (inl e) = inl e
or-first false b (inl e) = inl refl
or-first a b (inr x) = inr x

or-second : {X : Type 0} (a b : Bool) → ((a || b) ≡ false) ⊎ X → (b ≡ false) ⊎ X
or-second true b (inl e) = cc
or-second false b (inl e) = inl e
or-second a b (inr x) = inr x

module _ (region : RegionValue) (r : Rectangle) (row col : ℕ) where
  first-halo : (u d l t u' d' l' t' : ℕ → ℕ) (a c a' c' : Bool) → IsHalo region r row col (λ i. max (u i) (u' i)) (λ i. max (d i) (d' i)) (λ i. max (l i) (l' i)) (λ i. max (t i) (t' i)) (a || a') (c || c') → IsHalo region r row col u d l t a c
  first-halo u d l t u' d' l' t' a c a' c' h = record {
    up = λ i. le-least (u i) (max (u i) (u' i)) row (le-max_left (u i) (u' i)) (h.up i);
    down = λ i. lt-least (d i) (max (d i) (d' i)) r.rows row (le-max_left (d i) (d' i)) (h.down i);
    left = λ i. le-least (l i) (max (l i) (l' i)) col (le-max_left (l i) (l' i)) (h.left i);
    right = λ i. lt-least (t i) (max (t i) (t' i)) r.cols col (le-max_left (t i) (t' i)) (h.right i);
    rows = or-first a a' h.rows;
    cols = or-first c c' h.cols;
  }

  second-halo : (u d l t u' d' l' t' : ℕ → ℕ) (a c a' c' : Bool) → IsHalo region r row col (λ i. max (u i) (u' i)) (λ i. max (d i) (d' i)) (λ i. max (l i) (l' i)) (λ i. max (t i) (t' i)) (a || a') (c || c') → IsHalo region r row col u' d' l' t' a' c'
  second-halo u d l t u' d' l' t' a c a' c' h = record {
    up = λ i. le-least (u' i) (max (u i) (u' i)) row (le-max_right (u i) (u' i)) (h.up i);
    down = λ i. lt-least (d' i) (max (d i) (d' i)) r.rows row (le-max_right (d i) (d' i)) (h.down i);
    left = λ i. le-least (l' i) (max (l i) (l' i)) col (le-max_right (l i) (l' i)) (h.left i);
    right = λ i. lt-least (t' i) (max (t i) (t' i)) r.cols col (le-max_right (t i) (t' i)) (h.right i);
    rows = or-second a a' h.rows;
    cols = or-second c c' h.cols;
  }

  abbrev here : PositionAndGridSize
  here = record { rows = r.rows; cols = r.cols; row = row; col = col }

  abbrev there : PositionAndGridSize
  there = grid_position region (r.top + row) (r.left + col)

  -- a cell read from a part of a map is the cell of the full map
  cell-cut : (w m : Grid) → RowsFillRegion region w.rows → m.rows ≡ cells_of_rectangle r w.rows → (down right : ℤ) → (r.top ≡ 0) ⊎ (cell_count_up_or_left down ≤ row) → (region.rows ≤ r.top + r.rows) ⊎ (row + cell_count_down_or_right down < r.rows) → (r.left ≡ 0) ⊎ (cell_count_up_or_left right ≤ col) → (region.cols ≤ r.left + r.cols) ⊎ (col + cell_count_down_or_right right < r.cols) → cell_of_map_or_null m (pos row +ℤ down) (pos col +ℤ right) ≡ cell_of_map_or_null w (pos (r.top + row) +ℤ down) (pos (r.left + col) +ℤ right)
  cell-cut w m filled cut down right up_fits down_fits left_fits right_fits =
      let z = pos (r.top + row) +ℤ down in
      let most : length w.rows ≤ region.rows = omega (arith, filled.count) in
      let rows : item_at_integer_or_default [] (take r.rows (drop r.top w.rows)) (pos row +ℤ down) ≡ item_at_integer_or_default [] w.rows z = item-window [] w.rows r.top r.rows region.rows row most down up_fits down_fits in
      ap (λ l. item_at_integer_or_default None (item_at_integer_or_default [] l (pos row +ℤ down))
      (pos col +ℤ right)) cut
      ∙ ap (λ l. item_at_integer_or_default None l (pos col +ℤ right)) (row-item r w.rows (pos row +ℤ down) ∙ ap (λ l. take r.cols (drop r.left l)) rows)
      ∙ item-window None (item_at_integer_or_default [] w.rows z) r.left r.cols region.cols col (row-length region.cols w.rows filled.width z) right left_fits right_fits

  cells-cut : (whole part : List Grid) (i : ℕ) → All (λ m. RowsFillRegion region m.rows) whole → RowsAreCutOutOfMaps r whole part → (down right : ℤ) → (r.top ≡ 0) ⊎ (cell_count_up_or_left down ≤ row) → (region.rows ≤ r.top + r.rows) ⊎ (row + cell_count_down_or_right down < r.rows) → (r.left ≡ 0) ⊎ (cell_count_up_or_left right ≤ col) → (region.cols ≤ r.left + r.cols) ⊎ (col + cell_count_down_or_right right < r.cols) → cell_of_optional_map (slice_get part i) (pos row +ℤ down) (pos col +ℤ right) ≡ cell_of_optional_map (slice_get whole i) (pos (r.top + row) +ℤ down) (pos (r.left + col) +ℤ right)
  cells-cut [] [] i all cut down right u d l t = refl
  cells-cut [] (m ∷ part) i all cut down right u d l t = cc
  cells-cut (w ∷ whole) [] i all cut down right u d l t = cc
  cells-cut (w ∷ whole) (m ∷ part) zero all cut down right u d l t = cell-cut w m (all 0 w (omega arith)) (ap (first-or []) cut) down right u d l t
  cells-cut (w ∷ whole) (m ∷ part) (suc i) all cut down right u d l t = cells-cut whole part i (λ k x h. all (suc k) x (omega (arith, h))) (ap (drop 1) cut) down right u d l t

  called-same : (g : Function) (xs : List CellValue) → (is_row_or_nrows_function g ≡ false) ⊎ ((r.top ≡ 0) × (r.rows ≡ region.rows)) → (is_col_or_ncols_function g ≡ false) ⊎ ((r.left ≡ 0) × (r.cols ≡ region.cols)) → call_result g here xs ≡ call_result g there xs
  called-same function.Row xs (inl e) c = cc
  called-same function.Row xs (inr e) c = let same : row + 1 ≡ r.top + row + 1 = omega (arith, e.0) in ap (λ n. Some (pos n)) same
  called-same function.RowCount xs (inl e) c = cc
  called-same function.RowCount xs (inr e) c = ap (λ n. Some (pos n)) e.1
  called-same function.Column xs a (inl e) = cc
  called-same function.Column xs a (inr e) = let same : col + 1 ≡ r.left + col + 1 = omega (arith, e.0) in ap (λ n. Some (pos n)) same
  called-same function.ColumnCount xs a (inl e) = cc
  called-same function.ColumnCount xs a (inr e) = ap (λ n. Some (pos n)) e.1
  called-same g xs a c = refl

  own-le : {X : Type 0} (i n k : ℕ) → X ⊎ (cond (eqb i i) n 0 ≤ k) → X ⊎ (n ≤ k)
  own-le i n k (inl x) = inl x
  own-le i n k (inr h) = let e : cond (eqb i i) n 0 ≡ n = ap (λ b. cond b n 0) (eq-eqb i i refl) in inr (omega (arith, e, h))

  own-lt : {X : Type 0} (i n k p : ℕ) → X ⊎ (p + cond (eqb i i) n 0 < k) → X ⊎ (p + n < k)
  own-lt i n k p (inl x) = inl x
  own-lt i n k p (inr h) = let e : cond (eqb i i) n 0 ≡ n = ap (λ b. cond b n 0) (eq-eqb i i refl) in inr (omega (arith, e, h))

  abbrev HaloOf : Formula → Type 0
  HaloOf f = IsHalo region r row col (λ i. rows_read_above_by_formula i f) (λ i. rows_read_below_by_formula i f) (λ i. columns_read_left_by_formula i f) (λ i. columns_read_right_by_formula i f) (calls is_row_or_nrows_function f) (calls is_col_or_ncols_function f)

  abbrev HaloOfAll : ArgumentFormulas → Type 0
  HaloOfAll xs = IsHalo region r row col (λ i. rows_read_above_by_formulas i xs) (λ i. rows_read_below_by_formulas i xs) (λ i. columns_read_left_by_formulas i xs) (λ i. columns_read_right_by_formulas i xs) (call_any is_row_or_nrows_function xs) (call_any is_col_or_ncols_function xs)

  module _ (whole part : List Grid) (all : All (λ m. RowsFillRegion region m.rows) whole)
      (cut : RowsAreCutOutOfMaps r whole part) where
    mutual
      same-value : (f : Formula) → HaloOf f → value f part here ≡ value f whole there
      same-value (Number n) h = refl
      same-value (Map i down right) h =
          cells-cut whole part i all cut down right (own-le i (cell_count_up_or_left down) row (h.up i)) (own-lt i (cell_count_down_or_right down) r.rows row (h.down i)) (own-le i (cell_count_up_or_left right) col (h.left i)) (own-lt i (cell_count_down_or_right right) r.cols col (h.right i))
      same-value (Negated a) h = ap negated_cell (same-value a (record { up = h.up; down = h.down; left = h.left; right = h.right; rows = h.rows; cols = h.cols }))
      same-value (Not a) h = ap logical_negation_of_cell (same-value a (record { up = h.up; down = h.down; left = h.left; right = h.right; rows = h.rows; cols = h.cols }))
      same-value (Binary op a b) h =
          let first : HaloOf a = first-halo (λ i. rows_read_above_by_formula i a) (λ i. rows_read_below_by_formula i a) (λ i. columns_read_left_by_formula i a) (λ i. columns_read_right_by_formula i a) (λ i. rows_read_above_by_formula i b) (λ i. rows_read_below_by_formula i b) (λ i. columns_read_left_by_formula i b) (λ i. columns_read_right_by_formula i b) (calls is_row_or_nrows_function a) (calls is_col_or_ncols_function a) (calls is_row_or_nrows_function b) (calls is_col_or_ncols_function b) h in
          let second : HaloOf b = second-halo (λ i. rows_read_above_by_formula i a) (λ i. rows_read_below_by_formula i a) (λ i. columns_read_left_by_formula i a) (λ i. columns_read_right_by_formula i a) (λ i. rows_read_above_by_formula i b) (λ i. rows_read_below_by_formula i b) (λ i. columns_read_left_by_formula i b) (λ i. columns_read_right_by_formula i b) (calls is_row_or_nrows_function a) (calls is_col_or_ncols_function a) (calls is_row_or_nrows_function b) (calls is_col_or_ncols_function b) h in
          ap (λ x. operator_value op x (value b part here)) (same-value a first) ∙ ap (λ y. operator_value op (value a whole there) y) (same-value b second)
      same-value (Call g xs) h =
          let others : HaloOfAll xs = record {
            up = h.up;
            down = h.down;
            left = h.left;
            right = h.right;
            rows = or-second (is_row_or_nrows_function g) (call_any is_row_or_nrows_function xs) h.rows;
            cols = or-second (is_col_or_ncols_function g) (call_any is_col_or_ncols_function xs) h.cols;
          } in
          ap (call_result g here) (same-values xs others)
          ∙ called-same g (argument_values xs whole there) (or-first (is_row_or_nrows_function g) (call_any is_row_or_nrows_function xs) h.rows) (or-first (is_col_or_ncols_function g) (call_any is_col_or_ncols_function xs) h.cols)

      same-values : (xs : ArgumentFormulas) → HaloOfAll xs → argument_values xs part here
          ≡ argument_values xs whole there
      same-values NoTrees h = refl
      same-values (Then a xs) h =
          let first : HaloOf a = first-halo (λ i. rows_read_above_by_formula i a) (λ i. rows_read_below_by_formula i a) (λ i. columns_read_left_by_formula i a) (λ i. columns_read_right_by_formula i a) (λ i. rows_read_above_by_formulas i xs) (λ i. rows_read_below_by_formulas i xs) (λ i. columns_read_left_by_formulas i xs) (λ i. columns_read_right_by_formulas i xs) (calls is_row_or_nrows_function a) (calls is_col_or_ncols_function a) (call_any is_row_or_nrows_function xs) (call_any is_col_or_ncols_function xs) h in
          let second : HaloOfAll xs = second-halo (λ i. rows_read_above_by_formula i a) (λ i. rows_read_below_by_formula i a) (λ i. columns_read_left_by_formula i a) (λ i. columns_read_right_by_formula i a) (λ i. rows_read_above_by_formulas i xs) (λ i. rows_read_below_by_formulas i xs) (λ i. columns_read_left_by_formulas i xs) (λ i. columns_read_right_by_formulas i xs) (calls is_row_or_nrows_function a) (calls is_col_or_ncols_function a) (call_any is_row_or_nrows_function xs) (call_any is_col_or_ncols_function xs) h in
          ap (λ (x : CellValue). x ∷ argument_values xs part here) (same-value a first) ∙ ap (λ (l : List CellValue). value a whole there ∷ l) (same-values xs second)

    -- any expression has the same value if it is given its position in the full map
    mutual
      same-reported : (f : Formula) → IsHalo region r row col (λ i. rows_read_above_by_formula i f) (λ i. rows_read_below_by_formula i f) (λ i. columns_read_left_by_formula i f) (λ i. columns_read_right_by_formula i f) false false → value_seen_from f part here there ≡ value f whole there
      same-reported (Number n) h = refl
      same-reported (Map i down right) h =
          cells-cut whole part i all cut down right (own-le i (cell_count_up_or_left down) row (h.up i)) (own-lt i (cell_count_down_or_right down) r.rows row (h.down i)) (own-le i (cell_count_up_or_left right) col (h.left i)) (own-lt i (cell_count_down_or_right right) r.cols col (h.right i))
      same-reported (Negated a) h = ap negated_cell (same-reported a (record { up = h.up; down = h.down; left = h.left; right = h.right; rows = inl refl; cols = inl refl }))
      same-reported (Not a) h = ap logical_negation_of_cell (same-reported a (record { up = h.up; down = h.down; left = h.left; right = h.right; rows = inl refl; cols = inl refl }))
      same-reported (Binary op a b) h =
          let first = first-halo (λ i. rows_read_above_by_formula i a) (λ i. rows_read_below_by_formula i a) (λ i. columns_read_left_by_formula i a) (λ i. columns_read_right_by_formula i a) (λ i. rows_read_above_by_formula i b) (λ i. rows_read_below_by_formula i b) (λ i. columns_read_left_by_formula i b) (λ i. columns_read_right_by_formula i b) false false false false h in
          let second = second-halo (λ i. rows_read_above_by_formula i a) (λ i. rows_read_below_by_formula i a) (λ i. columns_read_left_by_formula i a) (λ i. columns_read_right_by_formula i a) (λ i. rows_read_above_by_formula i b) (λ i. rows_read_below_by_formula i b) (λ i. columns_read_left_by_formula i b) (λ i. columns_read_right_by_formula i b) false false false false h in
          ap (λ x. operator_value op x (value_seen_from b part here there)) (same-reported a first) ∙ ap (λ y. operator_value op (value a whole there) y) (same-reported b second)
      same-reported (Call g xs) h = ap (call_result g there) (sames-reported xs (record { up = h.up; down = h.down; left = h.left; right = h.right; rows = inl refl; cols = inl refl }))

      sames-reported : (xs : ArgumentFormulas) → IsHalo region r row col (λ i. rows_read_above_by_formulas i xs) (λ i. rows_read_below_by_formulas i xs) (λ i. columns_read_left_by_formulas i xs) (λ i. columns_read_right_by_formulas i xs) false false → values_seen_from xs part here there ≡ argument_values xs whole there
      sames-reported NoTrees h = refl
      sames-reported (Then a xs) h =
          let first = first-halo (λ i. rows_read_above_by_formula i a) (λ i. rows_read_below_by_formula i a) (λ i. columns_read_left_by_formula i a) (λ i. columns_read_right_by_formula i a) (λ i. rows_read_above_by_formulas i xs) (λ i. rows_read_below_by_formulas i xs) (λ i. columns_read_left_by_formulas i xs) (λ i. columns_read_right_by_formulas i xs) false false false false h in
          let second = second-halo (λ i. rows_read_above_by_formula i a) (λ i. rows_read_below_by_formula i a) (λ i. columns_read_left_by_formula i a) (λ i. columns_read_right_by_formula i a) (λ i. rows_read_above_by_formulas i xs) (λ i. rows_read_below_by_formulas i xs) (λ i. columns_read_left_by_formulas i xs) (λ i. columns_read_right_by_formulas i xs) false false false false h in
          ap (λ (x : CellValue). x ∷ values_seen_from xs part here there) (same-reported a first) ∙ ap (λ (l : List CellValue). value a whole there ∷ l) (sames-reported xs second)

pub reach-is-enough : ReachAndPositionAreEnough
reach-is-enough f whole part region r row col all cut h =
    same-reported region r row col whole part all cut f (record { up = h.up; down = h.down; left = h.left; right = h.right; rows = inl refl; cols = inl refl })

pub halo-is-enough : HaloIsEnough
halo-is-enough f whole part region r row col all cut h =
    same-value region r row col whole part all cut f (record { up = h.reads.up; down = h.reads.down; left = h.reads.left; right = h.reads.right; rows = h.rows; cols = h.cols })
