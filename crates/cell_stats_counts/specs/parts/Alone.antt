-- The combinations of one map.
use Rattle.std.specs.Prelude.{[], ◌∷◌}
use Rattle.cell_core.specs.Grid.{CellValue}
use Rattle.cell_stats_combinations.specs.Combinations.{Combination}

-- the combination of a cell of one map
abbrev pub combination_of_one_cell : CellValue → Combination
combination_of_one_cell cell = cell ∷ []
