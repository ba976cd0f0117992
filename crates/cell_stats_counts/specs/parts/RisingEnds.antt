-- Lists of categories that ascend.
use Rattle.std.specs.Prelude.{◌≡◌, All, IsTrue}
use Rattle.std.specs.declared.cmp.Ordering.TheVariants.{Less}
use Rattle.cell_core.specs.Grid.{CellValue}
use Rattle.cell_core_values.specs.Cell.{compare_cells_null_last}
use Rattle.cell_stats_counts.specs.declared.rising.AscendingListEnd.{AscendingListEnd}
use Rattle.cell_stats_combinations.specs.Combinations.{combination_cmp}
use Rattle.cell_stats_combinations.specs.Listed.{CombinationCounts, CombinationsAreAscending}
use Rattle.cell_stats_counts.specs.parts.Alone.{combination_of_one_cell}

-- the list ascends, and each category above `last` is above all entries
pub record EntriesAscendUpToCategory (last : CellValue) (entries : CombinationCounts) : Type 0 where
  pub ascending : CombinationsAreAscending entries
  pub below : (cell : CellValue) → compare_cells_null_last last cell ≡ Less
      → All (λ e. combination_cmp e.0 (combination_of_one_cell cell) ≡ Less) entries

-- if the end states that the list ascends, the list ascends up to the end's last category
abbrev pub ListAscendsIfEndStatesSo : AscendingListEnd → CombinationCounts → Type 0
ListAscendsIfEndStatesSo end entries = IsTrue end.ascends → EntriesAscendUpToCategory end.last entries
