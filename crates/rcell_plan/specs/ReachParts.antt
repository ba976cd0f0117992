-- Tiles with a halo: a rectangle with the surrounding rows and columns that an expression reaches.
use Rattle.std.specs.Prelude.{ℕ, ◌≤◌, ◌<◌, ◌+◌, ◌-◌, max, min}
use Rattle.cell_core_values.specs.Region.{RegionValue}
use Rattle.cell_calc_language.specs.Grammatical.{cell_count_up_or_left, cell_count_down_or_right}
use Rattle.cell_calc_language.specs.Formula.{Formula, Number, Map, Negated, Not, Binary, Call, ArgumentFormulas}
use Rattle.cell_calc_language.specs.Formula.{NoTrees, Then}
use Rattle.cell_calc_language.specs.Reach.{rows_read_above_by_formula, rows_read_below_by_formula}
use Rattle.rcell_plan.specs.HaloParts.{columns_read_left_by_formula, columns_read_right_by_formula}
use Rattle.cell_join_numbers.specs.Parts.{Rectangle}

-- a halo: numbers of rows up and down, and of columns to the left and right
pub record Halo : Type 0 where
  pub up : ℕ
  pub down : ℕ
  pub left : ℕ
  pub right : ℕ

abbrev pub no_halo : Halo
no_halo = record { up = 0; down = 0; left = 0; right = 0 }

-- the smallest halo that contains two others
abbrev pub halo_covering_both_halos : Halo → Halo → Halo
halo_covering_both_halos h k = record {
  up = max h.up k.up;
  down = max h.down k.down;
  left = max h.left k.left;
  right = max h.right k.right;
}

abbrev mutual
  -- the halo that an expression reads around a cell, over all its maps
  pub reach_of : Formula → Halo
  reach_of (Number n) = no_halo
  reach_of (Map i down right) =
      record {
        up = cell_count_up_or_left down;
        down = cell_count_down_or_right down;
        left = cell_count_up_or_left right;
        right = cell_count_down_or_right right;
      }
  reach_of (Negated a) = reach_of a
  reach_of (Not a) = reach_of a
  reach_of (Binary op a b) = halo_covering_both_halos (reach_of a) (reach_of b)
  reach_of (Call f xs) = reach_of_all xs

  pub reach_of_all : ArgumentFormulas → Halo
  reach_of_all NoTrees = no_halo
  reach_of_all (Then a xs) = halo_covering_both_halos (reach_of a) (reach_of_all xs)

-- the expression reads no map beyond its reach
pub record ExpressionReadsWithinReach (f : Formula) (place : ℕ) : Type 0 where
  pub up : rows_read_above_by_formula place f ≤ (reach_of f).up
  pub down : rows_read_below_by_formula place f ≤ (reach_of f).down
  pub left : columns_read_left_by_formula place f ≤ (reach_of f).left
  pub right : columns_read_right_by_formula place f ≤ (reach_of f).right

abbrev pub NoMapIsReadBeyondReach : Type 0
NoMapIsReadBeyondReach = (f : Formula) (place : ℕ) → ExpressionReadsWithinReach f place

-- a rectangle with its halo, limited to the region
abbrev pub rectangle_with_halo_in_region : RegionValue → Halo → Rectangle → Rectangle
rectangle_with_halo_in_region region h r = record {
  top = r.top - h.up;
  left = r.left - h.left;
  rows = min region.rows (r.top + r.rows + h.down) - (r.top - h.up);
  cols = min region.cols (r.left + r.cols + h.right) - (r.left - h.left);
}

-- the rectangle is inside the region, and the cell is inside the rectangle
pub record IsCellInRectangleInRegion (region : RegionValue) (r : Rectangle) (row col : ℕ) : Type 0 where
  pub high : r.top + r.rows ≤ region.rows
  pub wide : r.left + r.cols ≤ region.cols
  pub below : r.top ≤ row
  pub above : row < r.top + r.rows
  pub right : r.left ≤ col
  pub left : col < r.left + r.cols
