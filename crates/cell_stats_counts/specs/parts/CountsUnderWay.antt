-- Intermediate counts: in the table, side by side, or in the list.
use Rattle.std.specs.Prelude.{ℕ, ◌≡◌, ◌<◌, ◌+◌, ◌^◌, List, [], length, cond}
use Rattle.cell_core.specs.Shelf.{ShelfValue}
use Rattle.cell_stats_counts.specs.declared.counting.CombinationCounter.{CombinationCounter}
use Rattle.cell_stats_combinations.specs.declared.skip.Skip.{Skip}
use Rattle.cell_stats_combinations.specs.Combinations.{Combination, all_combinations}
use Rattle.cell_stats_counts.specs.Counts.{cell_count_of_combination}
use Rattle.cell_stats_combinations.specs.LeftOut.{kept_cells}
use Rattle.cell_stats_combinations.specs.Listed.{CombinationCounts, listed_count_of_combination, NoEntryCountIsZero}
use Rattle.cell_stats_combinations.specs.PairPlaces.{count_of_combination_in_slots}
use Rattle.cell_stats_combinations.specs.parts.Same.{are_same_combination}
use Rattle.cell_stats_combinations.specs.SideBySide.{count_of_counted_combination, HasOneCombinationPerCount}

-- the number of cells of a combination that are counted
abbrev pub counted_cell_count_of_combination : ℕ → Combination → CombinationCounter → CombinationCounts → ℕ
counted_cell_count_of_combination width k places entries = count_of_combination_in_slots width k
    places.pairs.places.items
    + listed_count_of_combination k entries + count_of_counted_combination width k places.wide

-- `count` more cells of each combination can be counted
abbrev pub CountsHaveRoomForMoreCells : ℕ → CombinationCounter → CombinationCounts → ℕ → Type 0
CountsHaveRoomForMoreCells width places entries count = (k : Combination)
    → counted_cell_count_of_combination width k places entries + count < 2 ^ 64

-- the cells above a row that are not left out were counted
abbrev pub AreCellsAboveRowCounted : ShelfValue → List ℕ → Skip → ℕ → CombinationCounter → CombinationCounts → Type 0
AreCellsAboveRowCounted shelf picks skip row places entries = (k : Combination)
    → counted_cell_count_of_combination (length picks) k places entries
    ≡ cell_count_of_combination k (kept_cells skip (all_combinations shelf.maps picks row shelf.region.cols))

-- counting can continue for combinations of `width` maps
pub record CanContinueCountingCombinations (width : ℕ) (places : CombinationCounter)
    (entries : CombinationCounts) : Type 0 where
  pub side : HasOneCombinationPerCount width places.wide
  pub pairs : 0 < length places.pairs.places.items
  pub no_zero : NoEntryCountIsZero entries

-- no cells are counted yet
pub record AreNoCellsCounted (places : CombinationCounter) : Type 0 where
  pub counts : (width : ℕ) (k : Combination) → counted_cell_count_of_combination width k places [] ≡ 0
  pub going : (width : ℕ) → CanContinueCountingCombinations width places []

-- `count` cells of a combination were counted, and counting can continue
pub record AreCombinationCellsCounted (cells : Combination) (count : ℕ) (places : CombinationCounter)
    (entries : CombinationCounts) (more : CombinationCounter) (longer : CombinationCounts) : Type 0 where
  pub counts : (k : Combination) → counted_cell_count_of_combination (length cells) k more longer
      ≡ counted_cell_count_of_combination (length cells) k places entries + cond (are_same_combination k cells) count 0
  pub going : CanContinueCountingCombinations (length cells) more longer
