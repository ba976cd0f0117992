-- The stored cells of a combination.
use Rattle.std.specs.Prelude.{take, min}
use Rattle.cell_stats_combinations.specs.declared.combination.Cells.{Cells}
use Rattle.cell_stats_combinations.specs.declared.combination.Cells.TheVariants.{Few, Many}
use Rattle.cell_stats_combinations.specs.Combinations.{Combination}

-- the cells of a combination; at most four cells are stored without an allocation
abbrev pub cells_of_combination : Cells → Combination
cells_of_combination (Few cells count) = take (min count 4) cells
cells_of_combination (Many cells) = cells.items
