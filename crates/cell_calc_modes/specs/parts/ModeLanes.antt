-- Cells in the lanes of vectors, and the most frequent cell in each lane.
use Rattle.std.specs.Prelude.{◌≡◌, ◌≤◌, ◌<◌, ◌-ℤ◌, ◌<ℤ◌, ◌==◌, ℕ, ℤ, pos, List, [], Some, None, map, slice_index_or}
use Rattle.std.specs.Prelude.{if◌then◌else◌}
use Rattle.cell_core.specs.Grid.{CellValue}
use Rattle.cell_calc_language.specs.CellOperators.{occurrences}

-- the cell that a number stands for: null for 0, otherwise categories in ascending order
abbrev pub cell_denoted_by_key : ℕ → CellValue
cell_denoted_by_key key = if key == 0 then None else Some (pos key -ℤ pos 2147483648)

-- the number in a lane
abbrev pub number_in_lane : ℕ → List ℕ → ℕ
number_in_lane k lanes = slice_index_or lanes k 0

-- the cells of a lane in a list of vectors
abbrev pub cells_of_vectors_in_lane : ℕ → List (List ℕ) → List CellValue
cells_of_vectors_in_lane k vectors = map (λ lanes. cell_denoted_by_key (number_in_lane k lanes)) vectors

-- `best` is the smallest of the categories that occur most often, and `most` is its count
pub record AreMostFrequentCategoryAndCount (cells : List CellValue) (best : ℤ) (most : ℕ) : Type 0 where
  pub within : (w : ℤ) → occurrences (Some w) cells ≤ most
  pub below : (w : ℤ) → w <ℤ best → occurrences (Some w) cells < most
  pub same : occurrences (Some best) cells ≡ most
  pub positive : 0 < most

-- like `AreMostFrequentCategoryAndCount`, with null if there are no cells
abbrev pub AreMostFrequentOrNullAndCount : List CellValue → CellValue → ℕ → Type 0
AreMostFrequentOrNullAndCount cells None most = (cells ≡ []) × (most ≡ 0)
AreMostFrequentOrNullAndCount cells (Some best) most = AreMostFrequentCategoryAndCount cells best most
