-- A rectangle with a halo as wide as an expression's reach contains all cells that the expression reads.
use Rattle.std.proofs.Common.{◌+◌, ◌-◌, ◌<◌, ◌≤◌, max, min, cond, eqb, ap, ◌∙◌, arith, inl, inr, ⊎_elim}
use Rattle.std.specs.Prelude.{◌≡◌, ℕ, ◌⊎◌, Bool, true, false, List, All}
use Rattle.std.proofs.lemmas.Bool.{cases_lt}
use Rattle.cell_core_values.specs.Region.{RegionValue}
use Rattle.cell_core.specs.Grid.{Grid, RowsFillRegion}
use Rattle.cell_calc_language.specs.Applied.{PositionAndGridSize, grid_position}
use Rattle.cell_calc_language.specs.Grammatical.{cell_count_up_or_left, cell_count_down_or_right}
use Rattle.cell_calc_language.specs.Formula as formula
use Rattle.cell_calc_language.specs.Formula.{Formula, ArgumentFormulas}
use Rattle.cell_calc_language.specs.Reach.{rows_read_above_by_formula, rows_read_below_by_formula}
use Rattle.cell_calc_language.specs.Reach.{rows_read_above_by_formulas, rows_read_below_by_formulas}
use Rattle.cell_calc_language.specs.Value.{value}
use Rattle.rcell_plan.specs.HaloParts.{columns_read_left_by_formula, columns_read_right_by_formula}
use Rattle.rcell_plan.specs.HaloParts.{columns_read_left_by_formulas, columns_read_right_by_formulas}
use Rattle.rcell_plan.specs.HaloParts.{ReadsInRectangleOrOutsideRegion}
use Rattle.rcell_plan.specs.HaloParts.{calls, is_row_or_nrows_function, is_col_or_ncols_function}
use Rattle.cell_join_numbers.specs.Parts.{Rectangle, RowsAreCutOutOfMaps}
use Rattle.rcell_plan.specs.ReachParts as reached
use Rattle.rcell_plan.specs.ReachParts.{Halo, reach_of, reach_of_all, ExpressionReadsWithinReach}
use Rattle.rcell_plan.specs.ReachParts.{rectangle_with_halo_in_region}
use Rattle.rcell_plan.specs.ReachParts.{IsCellInRectangleInRegion}
use Rattle.rcell_plan.proofs.HaloLemmas.{halo-is-enough}

-- the position of a cell of the region within a part of the region
abbrev pub position_in : Rectangle → (row col : ℕ) → PositionAndGridSize
position_in r row col = record { rows = r.rows; cols = r.cols; row = row - r.top; col = col - r.left }

own-most : (b : Bool) (n : ℕ) → cond b n 0 ≤ n
own-most true n = omega arith
own-most false n = omega arith

max-most : (a b c d : ℕ) → a ≤ c → b ≤ d → max a b ≤ max c d
max-most a b c d one other = omega (arith, one, other)

record IsWithinAll (xs : ArgumentFormulas) (place : ℕ) : Type 0 where
  up : rows_read_above_by_formulas place xs ≤ (reach_of_all xs).up
  down : rows_read_below_by_formulas place xs ≤ (reach_of_all xs).down
  left : columns_read_left_by_formulas place xs ≤ (reach_of_all xs).left
  right : columns_read_right_by_formulas place xs ≤ (reach_of_all xs).right

mutual
  within : (f : Formula) (place : ℕ) → ExpressionReadsWithinReach f place
  within (formula.Number n) place =
      record { up = omega arith; down = omega arith; left = omega arith; right = omega arith }
  within (formula.Map i down right) place = record {
    up = own-most (eqb place i) (cell_count_up_or_left down);
    down = own-most (eqb place i) (cell_count_down_or_right down);
    left = own-most (eqb place i) (cell_count_up_or_left right);
    right = own-most (eqb place i) (cell_count_down_or_right right);
  }
  within (formula.Negated a) place =
      let h = within a place in record { up = h.up; down = h.down; left = h.left; right = h.right }
  within (formula.Not a) place =
      let h = within a place in record { up = h.up; down = h.down; left = h.left; right = h.right }
  within (formula.Binary op a b) place =
      let h = within a place in
      let k = within b place in
      record {
        up = max-most _ _ _ _ h.up k.up;
        down = max-most _ _ _ _ h.down k.down;
        left = max-most _ _ _ _ h.left k.left;
        right = max-most _ _ _ _ h.right k.right;
      }
  within (formula.Call f xs) place =
      let h = all-within xs place in record { up = h.up; down = h.down; left = h.left; right = h.right }

  all-within : (xs : ArgumentFormulas) (place : ℕ) → IsWithinAll xs place
  all-within formula.NoTrees place =
      record { up = omega arith; down = omega arith; left = omega arith; right = omega arith }
  all-within (formula.Then a xs) place =
      let h = within a place in
      let k = all-within xs place in
      record {
        up = max-most _ _ _ _ h.up k.up;
        down = max-most _ _ _ _ h.down k.down;
        left = max-most _ _ _ _ h.left k.left;
        right = max-most _ _ _ _ h.right k.right;
      }

pub maps-are-within-reach : reached.NoMapIsReadBeyondReach
maps-are-within-reach f place = within f place

-- ---- in one dimension: the start of a stretch with its halo, and the cells read before and after a cell

before : (first up reads i : ℕ) → reads ≤ up → first ≤ i → (first - up ≡ 0) ⊎ (reads ≤ i - (first - up))
before first up reads i most from =
    ⊎_elim (λ less. inl (omega (arith, less))) (λ le. inr (omega (arith, le, most, from))) (cases_lt first up)

-- the length of a stretch with its halo, limited to `total` rows or columns
abbrev length-with : (total first n up down : ℕ) → ℕ
length-with total first n up down = min total (first + n + down) - (first - up)

behind : (total first n up down reads i : ℕ) → first + n ≤ total → reads ≤ down → first ≤ i → i < first + n
    → (total ≤ first - up + length-with total first n up down)
    ⊎ (i - (first - up) + reads < length-with total first n up down)
behind total first n up down reads i fits most from to =
    ⊎_elim (λ less. inr (omega (arith, less, most, from, to, fits))) (λ le. inl (omega (arith, le, fits)))
    (cases_lt (first + n + down) total)

back : (first up i : ℕ) → first ≤ i → first - up + (i - (first - up)) ≡ i
back first up i from = omega (arith, from)

module _ (f : Formula) (region : RegionValue) (r : Rectangle) (row col : ℕ)
    (is : IsCellInRectangleInRegion region r row col) where
  abbrev h : Rectangle
  h = rectangle_with_halo_in_region region (reach_of f) r

  abbrev reach : Halo
  reach = reach_of f

  above-or : (place : ℕ) → (h.top ≡ 0) ⊎ (rows_read_above_by_formula place f ≤ row - h.top)
  above-or place = before r.top reach.up (rows_read_above_by_formula place f) row (within f place).up is.below

  below-or : (place : ℕ) → (region.rows ≤ h.top + h.rows) ⊎ (row - h.top + rows_read_below_by_formula place f < h.rows)
  below-or place =
      behind region.rows r.top r.rows reach.up reach.down (rows_read_below_by_formula place f) row is.high
      (within f place).down
      is.below is.above

  left-or : (place : ℕ) → (h.left ≡ 0) ⊎ (columns_read_left_by_formula place f ≤ col - h.left)
  left-or place = before r.left reach.left (columns_read_left_by_formula place f) col (within f place).left is.right

  right-or : (place : ℕ) → (region.cols ≤ h.left + h.cols) ⊎ (col - h.left + columns_read_right_by_formula place f
      < h.cols)
  right-or place =
      behind region.cols r.left r.cols reach.left reach.right (columns_read_right_by_formula place f) col is.wide
      (within f place).right
      is.right is.left

  reads : ReadsInRectangleOrOutsideRegion f region h (row - h.top) (col - h.left)
  reads = record { up = above-or; down = below-or; left = left-or; right = right-or }

  there : grid_position region (h.top + (row - h.top)) (h.left + (col - h.left)) ≡ grid_position region row col
  there =
      ap (λ n. grid_position region n (h.left + (col - h.left))) (back r.top (reach_of f).up row is.below)
      ∙ ap (λ n. grid_position region row n) (back r.left (reach_of f).left col is.right)

-- in a rectangle with a halo of its reach, an expression that asks for no rows or columns has the full map's values
pub its-reach-is-enough : (f : Formula) (whole part : List Grid) (region : RegionValue) (r : Rectangle)
    → All (λ m. RowsFillRegion region m.rows) whole → RowsAreCutOutOfMaps (rectangle_with_halo_in_region region
    (reach_of f) r) whole part
    → calls is_row_or_nrows_function f ≡ false → calls is_col_or_ncols_function f ≡ false
    → (row col : ℕ) → IsCellInRectangleInRegion region r row col
    → value f part (position_in (rectangle_with_halo_in_region region (reach_of f) r) row col) ≡ value f whole (grid_position region row col)
its-reach-is-enough f whole part region r all cut no_rows no_cols row col holds =
    halo-is-enough f whole part region (rectangle_with_halo_in_region region (reach_of f) r) _ _ all cut
    (record { reads = reads f region r row col holds; rows = inl no_rows; cols = inl no_cols })
    ∙ ap (value f whole) (there f region r row col holds)
