use Rattle.std.proofs.Common.{List, None, get_or, ap, ◌∙◌}
use Rattle.cell_core_values.specs.Region.{RegionValue}
use Rattle.cell_core.specs.Grid.{CellValue}
use Rattle.cell_join_tiles.proofs.bordering.side_along_row.Goals as goal

pub returns-clause-side : goal.returns-clause-side
returns-clause-side c = record {
  long = c.in_ok-cells_of_map_row.ensures.long;
  each_cell = λ k lt. ap (λ (row : List CellValue). get_or row k None) c.in_ok-cells_of_map_row.ensures.cells;
  each_number = λ k lt. ap (λ (row : List CellValue). get_or row k None) c.in_ok-cells_of_map_row-2.ensures.cells;
}

pub returns-clause-numbers : goal.returns-clause-numbers
returns-clause-numbers c = c.in_ok-cells_of_map_row-2.ensures.long ∙ ap (λ (r : RegionValue). r.cols) c.requires.region
