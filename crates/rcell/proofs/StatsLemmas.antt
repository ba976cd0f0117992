-- The output of r.stats, for any table of its maps.
use Rattle.std.proofs.Common.{◌≡◌, ℕ, true, false, List, [], ◌∷◌, ◌++◌, refl, ap, ◌∙◌}
use Rattle.std.specs.Prelude.{sum_by, decimal}
use Rattle.std.specs.List.{flat_map}
use Rattle.cell_core.specs.Shelf.{ShelfValue}
use Rattle.rcell_script.specs.declared.command.StatsOptions.{StatsOptions}
use Rattle.cell_stats.specs.TableLaw.{TableListsOccurringCombinations, TableCountsAddUpToCells}
use Rattle.cell_stats.specs.TableText.{TableFormatValue, table_text, table_entries_to_print, line_text}
use Rattle.cell_stats.specs.TableText.{combination_fields}
use Rattle.cell_stats.specs.CategoryTables.{CombinationsWithCounts, table_of_cells}
use Rattle.cell_stats_combinations.specs.declared.skip.Skip.TheVariants.{Nothing}
use Rattle.rcell.specs.Output.{combinations_at_all_cells, table_format_of_stats_options, stats_text}
use Rattle.rcell.specs.StatsLaw.{IsTableOfMapsAtPlaces, StatsWritesTablesOfItsMaps, StatsCountsSumToRegionCells}

printed : TableListsOccurringCombinations → (shelf : ShelfValue) (places : List ℕ) (options : StatsOptions) (pairs : CombinationsWithCounts) → options.cells ≡ false → IsTableOfMapsAtPlaces shelf places options pairs
    → stats_text shelf places options ≡ table_text (table_format_of_stats_options options) shelf.maps places (table_entries_to_print options.after pairs)
printed agrees shelf places options pairs cells is =
    let same : pairs ≡ table_of_cells options.skip (combinations_at_all_cells shelf places) = (agrees options.skip (combinations_at_all_cells shelf places)).1 pairs is in
    rw (cells, same) refl

pub tables-printed : TableListsOccurringCombinations → StatsWritesTablesOfItsMaps
tables-printed agrees shelf places options cells = (
  (
    table_of_cells options.skip (combinations_at_all_cells shelf places),
    (agrees options.skip (combinations_at_all_cells shelf places)).0,
  ),
  λ pairs is. printed agrees shelf places options pairs cells is,
)

-- with counts, a line ends with the count
counted : (format : TableFormatValue) (shelf : ShelfValue) (places : List ℕ) (pairs : CombinationsWithCounts)
    → format.counts ≡ true
    → table_text format shelf.maps places pairs ≡ flat_map (λ pair. line_text format (combination_fields format shelf.maps places pair.0 ++ decimal pair.1 ∷ [])) pairs
counted format shelf places [] e = refl
counted format shelf places (pair ∷ pairs) e = rw (e, counted format shelf places pairs e) refl

pub counts-cover : TableListsOccurringCombinations → TableCountsAddUpToCells → StatsCountsSumToRegionCells
counts-cover agrees sums shelf places options cells counts skip after pairs is =
    let text : stats_text shelf places options ≡ table_text (table_format_of_stats_options options) shelf.maps places
    pairs =
    printed agrees shelf places options pairs cells is ∙ ap (λ a. table_text (table_format_of_stats_options options) shelf.maps places (table_entries_to_print a pairs)) after in
    let same : pairs ≡ table_of_cells Nothing (combinations_at_all_cells shelf places) =
    (agrees options.skip (combinations_at_all_cells shelf places)).1 pairs is ∙ ap (λ s. table_of_cells s (combinations_at_all_cells shelf places)) skip in (
      text ∙ counted (table_format_of_stats_options options) shelf places pairs counts,
      ap (λ (ps : CombinationsWithCounts). sum_by (λ pair. pair.1) ps) same
          ∙ sums shelf.maps places shelf.region.rows shelf.region.cols,
    )
