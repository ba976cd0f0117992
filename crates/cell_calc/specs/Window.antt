-- Windows: the rows of a map around a centre row (profile).
use Rattle.std.specs.Prelude.{◌≡◌, ◌≤◌, ℕ, ℤ, pos, ◌+◌, ◌-◌, ◌≤ℤ◌, neg_ℤ, List, take, drop, Option, Some, None}
use Rattle.cell_core.specs.Grid.{Grid, CellValue}

-- a window: the numbers of rows above and below its centre, the centre, the size of its map, and the rows that it holds
pub record RowWindowValue : Type 0 where
  pub above : ℕ
  pub below : ℕ
  pub centre : ℕ
  pub rows : ℕ
  pub cols : ℕ
  pub held : List (List CellValue)

-- the rows from `above` rows above the centre to `below` rows below it, as far as the map has them
abbrev pub rows_around_centre : (above below centre : ℕ) → List (List CellValue) → List (List CellValue)
rows_around_centre above below centre rows = drop (centre - above) (take (centre + below + 1) rows)

-- the window holds exactly the rows of this map around its centre
pub record WindowHoldsMapRows (w : RowWindowValue) (m : Grid) : Type 0 where
  pub rows : w.rows ≡ m.region.rows
  pub cols : w.cols ≡ m.region.cols
  pub held : w.held ≡ rows_around_centre w.above w.below w.centre m.rows

-- the offset is within the window's reach
pub record WindowReachesOffset (w : RowWindowValue) (offset : ℤ) : Type 0 where
  pub up : neg_ℤ (pos w.above) ≤ℤ offset
  pub down : offset ≤ℤ pos w.below

-- there is a window and a map, and the window is a window of the map
abbrev pub IsWindowOfMap : Option RowWindowValue → Option Grid → Type 0
IsWindowOfMap None m = ⊥
IsWindowOfMap (Some w) None = ⊥
IsWindowOfMap (Some w) (Some m) = WindowHoldsMapRows w m

-- there is a window whose centre is the row and which reaches this far up and down
abbrev pub IsWindowAtRowWithReach : (row up down : ℕ) → Option RowWindowValue → Type 0
IsWindowAtRowWithReach row up down None = ⊥
IsWindowAtRowWithReach row up down (Some w) = (w.centre ≡ row) × ((up ≤ w.above) × (down ≤ w.below))
