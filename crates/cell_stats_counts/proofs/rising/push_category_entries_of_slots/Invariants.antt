use Rattle.std.proofs.Common.{◌≡◌, ◌+◌, take}
use Rattle.cell_stats_combinations.specs.Combinations.{Combination}
use Rattle.cell_stats_combinations.specs.Listed.{listed_count_of_combination, NoEntryCountIsZero}
use Rattle.cell_stats_combinations.specs.PairPlaces.{count_of_combination_in_slots}
use Rattle.cell_stats_counts.specs.parts.RisingEnds.{ListAscendsIfEndStatesSo}
use Rattle.cell_stats_counts.proofs.rising.push_category_entries_of_slots.Given as goal

abbrev pub invariant-loop-place : goal.invariant-loop-place
invariant-loop-place l = record {
  counted : (k : Combination) → listed_count_of_combination k l.entries.items
      ≡ listed_count_of_combination k l.fn.entries.items + count_of_combination_in_slots 1 k
      (take l.place-index l.places);
  no_zero : NoEntryCountIsZero l.entries.items;
  end : ListAscendsIfEndStatesSo l.end l.entries.items;
}
