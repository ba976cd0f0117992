-- The output of r.stats.
use Rattle.std.proofs.Common.{◌≡◌, ℕ, true, false, List, Option, refl}
use Rattle.cell_core.specs.Shelf.{ShelfValue}
use Rattle.rcell_script.specs.declared.command.StatsOptions.{StatsOptions}
use Rattle.cell_stats_combinations.specs.Combinations.{Combination}
use Rattle.cell_stats.specs.CategoryTables.{CombinationsWithCounts, table_of_cells}
use Rattle.cell_stats.specs.TableText.{TableFormatValue, table_text, table_entries_to_print, cell_lines}
use Rattle.rcell.specs.Output.{combinations_at_all_cells, table_format_of_stats_options, stats_text}

-- the output of r.stats is the text of a table
pub table_stats : (shelf : ShelfValue) (places : List ℕ) (options : StatsOptions) (format : TableFormatValue) (after : Option Combination) (pairs : CombinationsWithCounts)
    → options.cells ≡ false → format ≡ table_format_of_stats_options options → after ≡ options.after → pairs ≡ table_of_cells options.skip (combinations_at_all_cells shelf places)
    → table_text format shelf.maps places (table_entries_to_print after pairs) ≡ stats_text shelf places options
table_stats shelf places options format after pairs cells f a p = rw (f, a, p, cells) refl

-- with one line per cell, the output of r.stats is the text of the cells
pub cells_stats : (shelf : ShelfValue) (places : List ℕ) (options : StatsOptions) (format : TableFormatValue) → options.cells ≡ true → format ≡ table_format_of_stats_options options
    → cell_lines format options.skip shelf.maps places shelf.region.rows shelf.region.cols ≡ stats_text shelf places options
cells_stats shelf places options format cells f = rw (f, cells) refl
