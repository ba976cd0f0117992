-- What r.stats writes, in terms of its maps' tables (r.stats manual).
use Rattle.std.specs.Prelude.{ℕ, ◌≡◌, ◌*◌, true, false, List, [], ◌∷◌, ◌++◌, None, sum_by, decimal}
use Rattle.std.specs.List.{flat_map}
use Rattle.cell_core.specs.Shelf.{ShelfValue}
use Rattle.rcell_script.specs.declared.command.Command.TheVariants.{Stats}
use Rattle.rcell_script.specs.declared.command.StatsOptions.{StatsOptions}
use Rattle.cell_stats.specs.CategoryTables.{CombinationsWithCounts, IsTable}
use Rattle.cell_stats.specs.TableText.{table_text, table_entries_to_print, line_text, combination_fields}
use Rattle.cell_stats_combinations.specs.declared.skip.Skip.TheVariants.{Nothing}
use Rattle.rcell.specs.Output.{combinations_at_all_cells, table_format_of_stats_options, command_output_text}

-- the pairs are a table of the maps at these places
abbrev pub IsTableOfMapsAtPlaces : ShelfValue → List ℕ → StatsOptions → CombinationsWithCounts → Type 0
IsTableOfMapsAtPlaces shelf places options pairs = IsTable options.skip (combinations_at_all_cells shelf places) pairs

-- without `-1`, r.stats writes the printed form of every list that is a table of its maps, or of the rest of the table
-- after a combination; there is at least one of these lists
abbrev pub StatsWritesTablesOfItsMaps : Type 0
StatsWritesTablesOfItsMaps = (shelf : ShelfValue) (places : List ℕ) (options : StatsOptions) → options.cells ≡ false
    → ((pairs : CombinationsWithCounts) × IsTableOfMapsAtPlaces shelf places options pairs)
    × ((pairs : CombinationsWithCounts) → IsTableOfMapsAtPlaces shelf places options pairs
    → command_output_text shelf (Stats places options) ≡ table_text (table_format_of_stats_options options) shelf.maps places (table_entries_to_print options.after pairs))

-- with only `-c`, r.stats writes one line per pair of the table, which ends in the pair's count; the counts add up to
-- the number of cells
abbrev pub StatsCountsSumToRegionCells : Type 0
StatsCountsSumToRegionCells = (shelf : ShelfValue) (places : List ℕ) (options : StatsOptions)
    → options.cells ≡ false → options.counts ≡ true → options.skip ≡ Nothing → options.after ≡ None → (pairs : CombinationsWithCounts) → IsTableOfMapsAtPlaces shelf places options pairs
    → (command_output_text shelf (Stats places options)
    ≡ flat_map (λ pair. line_text (table_format_of_stats_options options) (combination_fields (table_format_of_stats_options options) shelf.maps places pair.0 ++ decimal pair.1 ∷ [])) pairs)
    × (sum_by (λ pair. pair.1) pairs ≡ shelf.region.rows * shelf.region.cols)
