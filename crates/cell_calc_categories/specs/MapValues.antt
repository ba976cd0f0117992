-- Maps of an expression's values.
use Rattle.std.specs.Prelude.{◌≡◌, ◌<◌, ℕ, List}
use Rattle.cell_core.specs.Grid.{Grid, cell_at, empty_category_labels}
use Rattle.cell_core_values.specs.Region.{RegionValue}
use Rattle.cell_calc_language.specs.Applied.{grid_position}
use Rattle.cell_calc_language.specs.Formula.{Formula}
use Rattle.cell_calc_language.specs.Value.{value}

-- the map covers the region without labels, and each cell has the expression's value
pub record MapHasExpressionValues (f : Formula) (r : RegionValue) (maps : List Grid) (m : Grid) : Type 0 where
  pub region : m.region ≡ r
  pub labels : m.labels ≡ empty_category_labels
  pub cells : (row col : ℕ) → row < r.rows → col < r.cols → cell_at m row col ≡ value f maps (grid_position r row col)
