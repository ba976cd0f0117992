-- The stored rows of a map.
use Rattle.std.specs.Prelude.{List}
use Rattle.cell_core_values.specs.Region.{RegionValue, IsValidRegion}
use Rattle.cell_core.specs.Grid.{CellValue, AreRowsOfUnfinishedMap, CellsAreNullOrCategories}

-- the region is valid, and the rows fit it
pub record RowsFillValidRegion (region : RegionValue) (rows : List (List CellValue)) : Type 0 where
  pub valid : IsValidRegion region
  pub draft : AreRowsOfUnfinishedMap region rows
  pub cells : CellsAreNullOrCategories rows
