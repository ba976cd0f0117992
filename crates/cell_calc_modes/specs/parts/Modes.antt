-- How the most frequent category is found among sorted categories, and the effect of null.
use Rattle.std.specs.Prelude.{◌≡◌, ◌<◌, ◌≤◌, ◌<ℤ◌, ℕ, ℤ, List, Some, None, if◌then◌else◌}
use Rattle.cell_core.specs.Grid.{CellValue}
use Rattle.cell_calc_language.specs.CellOperators.{occurrences, is_null}

-- `best` is the smallest of the most frequent categories and `most` its count; `last` is the last category and `run`
-- its count
pub record IsMostFrequentAndLastCategory (cells : List CellValue) (best : ℤ) (most : ℕ) (last : ℤ)
    (run : ℕ) : Type 0 where
  pub within : (w : ℤ) → occurrences (Some w) cells ≤ most
  pub below : (w : ℤ) → w <ℤ best → occurrences (Some w) cells < most
  pub same : occurrences (Some best) cells ≡ most
  pub running : occurrences (Some last) cells ≡ run
  pub above : (w : ℤ) → last <ℤ w → occurrences (Some w) cells ≡ 0
  pub positive : 0 < most

-- like `IsMostFrequentAndLastCategory`, for cells; `best` and `last` are not null
abbrev pub AreMostFrequentAndLastCells : List CellValue → CellValue → ℕ → CellValue → ℕ → Type 0
AreMostFrequentAndLastCells cells None most last run = ⊥
AreMostFrequentAndLastCells cells (Some best) most None run = ⊥
AreMostFrequentAndLastCells cells (Some best) most (Some last) run = IsMostFrequentAndLastCategory cells best most
    last run

-- the cell, or null if the other is null
abbrev pub cell_unless_other_null : CellValue → CellValue → CellValue
cell_unless_other_null cell other = if is_null other then None else cell
