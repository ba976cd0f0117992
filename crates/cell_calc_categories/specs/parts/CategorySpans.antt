-- Spans of categories, and the table indices of their cells.
use Rattle.std.specs.Prelude.{◌≡◌, ℕ, pos, negsuc, ◌+ℤ◌, ◌-ℤ◌, ◌≤ℤ◌, Some, None}
use Rattle.cell_core.specs.Grid.{CellValue}
use Rattle.cell_calc_categories.specs.declared.span.CategoryInterval.{CategoryInterval}

-- the span is within the range of categories and contains all cells that bytes stand for
pub record IsValidCategoryInterval (s : CategoryInterval) : Type 0 where
  pub below : negsuc 2147483646 ≤ℤ s.least
  pub zero : s.least ≤ℤ pos 0
  pub bytes : pos 254 ≤ℤ s.greatest
  pub above : s.greatest ≤ℤ pos 2147483647

-- the cell is null, or a category in the span
abbrev pub IsCellInCategoryInterval : CategoryInterval → CellValue → Type 0
IsCellInCategoryInterval s None = Unit {0}
IsCellInCategoryInterval s (Some v) = (s.least ≤ℤ v) × (v ≤ℤ s.greatest)

-- the span t contains each cell of s
abbrev pub IsIntervalInsideInterval : CategoryInterval → CategoryInterval → Type 0
IsIntervalInsideInterval s t = (x : CellValue) → IsCellInCategoryInterval s x → IsCellInCategoryInterval t x

-- the table index of a cell: by category, with null last
abbrev pub IsTablePlaceOfCell : CategoryInterval → ℕ → CellValue → Type 0
IsTablePlaceOfCell s p None = pos p ≡ (s.greatest -ℤ s.least) +ℤ pos 1
IsTablePlaceOfCell s p (Some v) = pos p ≡ v -ℤ s.least

-- the number of table entries for a span
abbrev pub IsTableSizeOfInterval : CategoryInterval → ℕ → Type 0
IsTableSizeOfInterval s n = pos n ≡ (s.greatest -ℤ s.least) +ℤ pos 2
