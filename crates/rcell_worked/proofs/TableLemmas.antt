-- The table of a list of combinations, as the checker computes it.
use Rattle.std.proofs.Common.{◌≡◌, ◌∙◌, ℕ, false, List, [], ◌∷◌, ◌++◌, length, map, refl, sym, ap, arith}
use Rattle.std.specs.FinMap as finmap
use Rattle.cell_core.specs.Shelf.{ShelfValue}
use Rattle.cell_stats.specs.CategoryTables.{CombinationsWithCounts, combination_counts}
use Rattle.cell_stats.specs.TableText.{table_text, table_entries_to_print}
use Rattle.cell_stats_combinations.specs.Combinations.{Combination, combination_cmp, combination_cmp_total}
use Rattle.cell_stats_combinations.specs.LeftOut.{kept_cells}
use Rattle.cell_stats_counts.specs.Counts.{cell_count_of_combination}
use Rattle.rcell_script.specs.declared.command.Command.TheVariants.{Stats}
use Rattle.rcell_script.specs.declared.command.StatsOptions.{StatsOptions}
use Rattle.rcell.specs.Output.{combinations_at_all_cells, table_format_of_stats_options, command_output_text}

-- pairs put one by one into an ordered list
abbrev pub in_order : CombinationsWithCounts → CombinationsWithCounts
in_order [] = []
in_order (pair ∷ pairs) = finmap.put combination_cmp pair.0 pair.1 (in_order pairs)

none_left : (pairs : CombinationsWithCounts) → length pairs ≡ 0 → pairs ≡ []
none_left [] none = refl
none_left (pair ∷ pairs) none = absurd (omega (arith, none))

entries_of : (pairs : CombinationsWithCounts) → finmap.entries (finmap.from_entries {R = combination_cmp} pairs)
    ≡ in_order pairs
entries_of [] = none_left _ (sym (finmap.len-entries (finmap.empty {R = combination_cmp}))
    ∙ finmap.len-empty combination_cmp ℕ)
entries_of (pair ∷ pairs) =
    finmap.entries-insert combination_cmp_total (finmap.from_entries {R = combination_cmp} pairs) pair.0 pair.1
    ∙ ap (finmap.put combination_cmp pair.0 pair.1) (entries_of pairs)

-- each combination with its count, in order
abbrev pub counted : List Combination → CombinationsWithCounts
counted cells = in_order (map (λ k. (k, cell_count_of_combination k cells)) cells)

pub counts_are : (cells : List Combination) → combination_counts cells ≡ counted cells
unfolding combination_counts
counts_are cells = entries_of (map (λ k. (k, cell_count_of_combination k cells)) cells)

-- r.stats prints these pairs
pub prints : (shelf : ShelfValue) (places : List ℕ) (options : StatsOptions) (text rest : List ℕ)
    → options.cells ≡ false
    → text ≡ table_text (table_format_of_stats_options options) shelf.maps places
    (table_entries_to_print options.after (counted (kept_cells options.skip
    (combinations_at_all_cells shelf places)))) ++ rest
    → text ≡ command_output_text shelf (Stats places options) ++ rest
prints shelf places options text rest table is =
    is ∙ ap (λ (pairs : CombinationsWithCounts). table_text (table_format_of_stats_options options) shelf.maps places
    (table_entries_to_print options.after pairs) ++ rest)
    (sym (counts_are (kept_cells options.skip (combinations_at_all_cells shelf places))))
    ∙ rw table refl
