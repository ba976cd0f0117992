-- Counts of combinations of one or two maps in a table.
use Rattle.std.specs.Prelude.{ℕ, ◌≡◌, ◌<◌, ◌+◌, ◌^◌, List, length, cond}
use Rattle.cell_stats_combinations.specs.declared.pair_place.CombinationCountSlot.{CombinationCountSlot}
use Rattle.cell_stats_combinations.specs.Combinations.{Combination}
use Rattle.cell_stats_combinations.specs.parts.Same.{are_same_combination}
use Rattle.cell_stats_combinations.specs.Listed.{CombinationCounts, listed_count_of_combination}
use Rattle.cell_stats_combinations.specs.PairPlaces.{count_of_combination_in_slots}

-- the table counts no cells
abbrev pub AllSlotsAreFree : List CombinationCountSlot → Type 0
AllSlotsAreFree places = (width : ℕ) (k : Combination) → count_of_combination_in_slots width k places ≡ 0

-- the places and the list count the given number of additional cells of a combination, and no additional cells of
-- others
abbrev pub SlotsCountMoreCellsOfCombination : Combination → ℕ → List CombinationCountSlot → CombinationCounts
    → List CombinationCountSlot → CombinationCounts → Type 0
SlotsCountMoreCellsOfCombination cells count places entries more longer = (k : Combination)
    → count_of_combination_in_slots (length cells) k more + listed_count_of_combination k longer
    ≡ count_of_combination_in_slots (length cells) k places + listed_count_of_combination k entries + cond
    (are_same_combination k cells) count 0

-- the places and the list have room for the given number of additional cells of each combination
abbrev pub SlotsHaveRoomForMoreCells : ℕ → List CombinationCountSlot → CombinationCounts → ℕ → Type 0
SlotsHaveRoomForMoreCells width places entries count = (k : Combination)
    → count_of_combination_in_slots width k places + listed_count_of_combination k entries + count < 2 ^ 64
