-- Neighbours are shifts: a map at an offset is a shifted map (r.mapcalc manual; null outside the region is our own
-- choice).
use Rattle.std.specs.Prelude.{ℕ, ℤ, pos, ◌≡◌, ◌+ℤ◌, ◌<◌, ◌≤◌, ◌⊎◌, List, length, All, None}
use Rattle.cell_core.specs.Grid.{Grid, RowsFillRegion, cell_at}
use Rattle.cell_core.specs.Shelf.{ShelfValue}
use Rattle.cell_calc_language.specs.Formula.{Map}
use Rattle.rcell.specs.Making.{IsMapOfExpressionValues, shelf_with_map_at_end}

-- after `x = g[a,b]`, `y = x[c,d]` and `z = g[a+c,b+d]`, y equals z at each cell from which the step (c,d) stays in the
-- region
abbrev pub ShiftsAddUp : Type 0
ShiftsAddUp =
    (shelf : ShelfValue) (place : ℕ) (a b c d : ℤ) (name : List ℕ) (x y z : Grid)
    → IsMapOfExpressionValues (Map place a b) shelf x
    → IsMapOfExpressionValues (Map (length shelf.maps) c d) (shelf_with_map_at_end shelf name x) y
    → IsMapOfExpressionValues (Map place (a +ℤ c) (b +ℤ d)) shelf z
    → (row col to_row to_col : ℕ) → row < shelf.region.rows → col < shelf.region.cols
    → pos row +ℤ c ≡ pos to_row → to_row < shelf.region.rows
    → pos col +ℤ d ≡ pos to_col → to_col < shelf.region.cols
    → cell_at y row col ≡ cell_at z row col

-- after `x = g[a,b]`, x is null where the step (a,b) leaves the region
abbrev pub NullBeyondTheEdge : Type 0
NullBeyondTheEdge =
    (shelf : ShelfValue) (place : ℕ) (a b : ℤ) (x : Grid)
    → All (λ m. RowsFillRegion shelf.region m.rows) shelf.maps → IsMapOfExpressionValues (Map place a b) shelf x
    → (row col : ℕ) → row < shelf.region.rows → col < shelf.region.cols
    → ((to : ℕ) → pos row +ℤ a ≡ pos to → shelf.region.rows ≤ to)
    ⊎ ((to : ℕ) → pos col +ℤ b ≡ pos to → shelf.region.cols ≤ to)
    → cell_at x row col ≡ None
