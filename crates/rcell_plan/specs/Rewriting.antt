-- Where the maps of a tile are in the full map.
use Rattle.std.specs.Prelude.{◌≡◌, ◌≤◌}
use Rattle.cell_core_values.specs.Region.{RegionValue, most_cells}
use Rattle.cell_join_numbers.specs.Parts.{Rectangle}
use Rattle.rcell_plan.specs.declared.rewriting.PlaceInFullMap.{PlaceInFullMap}

-- the region has the size of the full map, and the rectangle begins at the first row and column of the tile's maps
pub record IsPlaceInFullMap (p : PlaceInFullMap) (region : RegionValue) (r : Rectangle) : Type 0 where
  pub rows_are : region.rows ≡ p.rows
  pub cols_are : region.cols ≡ p.cols
  pub top_is : r.top ≡ p.top
  pub left_is : r.left ≡ p.left

-- all numbers are categories
pub record IsPlaceWithinLimits (p : PlaceInFullMap) : Type 0 where
  pub rows_most : p.rows ≤ most_cells
  pub cols_most : p.cols ≤ most_cells
  pub top_most : p.top ≤ most_cells
  pub left_most : p.left ≤ most_cells
