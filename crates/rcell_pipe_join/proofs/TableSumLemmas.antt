-- The sums of the tables of parts.
use Rattle.std.proofs.Common.{◌≡◌, ◌∙◌, ℕ, List, [], ◌∷◌, All, map, length, true}
use Rattle.std.proofs.Common.{refl, ap, arith, count_by, sum_by, get_or}
use Rattle.std.specs.List.{AllZip}
use Rattle.std.proofs.lemmas.List.{get_or_default}
use Rattle.std.proofs.lemmas.List.Elements.{All-cons, All-nil}
use Rattle.std.proofs.lemmas.List.Sums.{sum_by-cons}
use Rattle.cell_stats_combinations.specs.declared.skip.Skip.{Skip}
use Rattle.cell_stats_combinations.specs.Combinations.{Combination, all_combinations}
use Rattle.cell_stats_combinations.specs.LeftOut.{kept_cells}
use Rattle.cell_stats_combinations.specs.Listed.{CombinationCounts, listed_count_of_combination}
use Rattle.cell_stats.specs.CategoryTables.{table_of_cells}
use Rattle.cell_stats.proofs.TableLemmas.{combination_counts-IsTally, table_is}
use Rattle.cell_join_numbers.specs.Merging.{AreAscendingNonzeroEntries}
use Rattle.cell_join_numbers.specs.TableParts.{TileOfMaps, combinations_of_tile}
use Rattle.cell_join_numbers.proofs.ListingLemmas.{sums-merge}
use Rattle.cell_join_numbers.proofs.MergeLemmas.{tables-merge}
use Rattle.rcell_pipe_join.specs.SumLaw.{AreEntriesOfTileTable, TablesOfTilesAddUp}
use Rattle.rcell_pipe_join.proofs.CountLemmas.{listed-table, listed-with}

abbrev pub table_of_part : Skip → List ℕ → TileOfMaps → CombinationCounts
table_of_part skip picks part = table_of_cells skip (combinations_of_tile picks part)

table-listing : (skip : Skip) (cells : List Combination) → AreAscendingNonzeroEntries (table_of_cells skip cells)
table-listing skip cells =
    let tally = combination_counts-IsTally (kept_cells skip cells) in
    let entries = table_of_cells skip cells in
    record {
      ascending = tally.ascending;
      no_zero = λ i d within.
          let e = get_or entries i d in
          ((tally.counted e.0 e.1).0 (i, within, get_or_default entries i e d within)).0;
    }

tables-listings : (skip : Skip) (picks : List ℕ) (parts : List TileOfMaps)
    → All AreAscendingNonzeroEntries (map (table_of_part skip picks) parts)
tables-listings skip picks [] = All-nil AreAscendingNonzeroEntries
tables-listings skip picks (part ∷ parts) =
    All-cons AreAscendingNonzeroEntries (table_of_part skip picks part) (map (table_of_part skip picks) parts)
    (table-listing skip (combinations_of_tile picks part)) (tables-listings skip picks parts)

pub listed-tables : (skip : Skip) (picks : List ℕ) (k : Combination) (parts : List TileOfMaps)
    (tables : List CombinationCounts)
    → AllZip (AreEntriesOfTileTable skip picks) parts tables
    → sum_by (listed_count_of_combination k) tables ≡ sum_by (listed_count_of_combination k)
    (map (table_of_part skip picks) parts)
listed-tables skip picks k [] [] all = refl
listed-tables skip picks k [] (table ∷ tables) all = absurd all
listed-tables skip picks k (part ∷ parts) [] all = absurd all
listed-tables skip picks k (part ∷ parts) (table ∷ tables) all =
    omega (
      arith,
      sum_by-cons (listed_count_of_combination k) table tables,
      sum_by-cons (listed_count_of_combination k) (table_of_part skip picks part)
          (map (table_of_part skip picks) parts),
      all.0 k,
      listed-tables skip picks k parts tables all.1,
    )

pub count-all : (cells : List Combination) → count_by (λ k. true) cells ≡ length cells
count-all [] = refl
count-all (c ∷ cells) = omega (arith, sum_by-cons (λ (x : Combination). 1) c cells, count-all cells)

pub tables-add-up : TablesOfTilesAddUp
tables-add-up rows cols whole parts are picks skip tables each width response frame =
    let sums = frame.sums in
    let sum = frame.are in
    let cells = all_combinations whole picks rows cols in
    let listing : AreAscendingNonzeroEntries sums = record { ascending = sum.ascending; no_zero = sum.no_zero } in
    let merge = sums-merge (map (table_of_part skip picks) parts) (tables-listings skip picks parts) sums listing
    (λ k. sum.counts k ∙ listed-tables skip picks k parts tables each) in
    let table = table_is skip cells sums ((tables-merge rows cols whole parts are picks skip sums).0 merge) in
    record {
      table = table;
      total = listed-with (λ k. true) (kept_cells skip cells) sums
          (λ k. ap (listed_count_of_combination k) table ∙ listed-table skip cells k)
          ∙ count-all (kept_cells skip cells);
    }
