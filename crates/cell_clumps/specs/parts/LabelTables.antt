-- Label tables of complete maps.
use Rattle.std.specs.Prelude.{ℕ, ◌*◌, ◌≡◌, List, length}
use Rattle.cell_core.specs.Grid.{Grid}
use Rattle.cell_clumps.specs.declared.clump.Joining.{Joining}
use Rattle.cell_clumps.specs.parts.Labels.{LabelsPointToSmallerOrSelf}
use Rattle.cell_clumps.specs.parts.ClumpsRead.{RootsExistForLabelsOfCellsRead}

-- the label table of a map in which all adjacent cells of the same category were joined
pub record IsLabelTableOfMap (j : Joining) (m : Grid) (table : List ℕ) : Type 0 where
  pub down : LabelsPointToSmallerOrSelf table
  pub labels : List ℕ
  pub long : length labels ≡ m.region.rows * m.region.cols
  pub has_read : RootsExistForLabelsOfCellsRead j m table labels
