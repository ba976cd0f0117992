-- The columns of spans.
use Rattle.std.specs.Prelude.{◌≡◌, ◌<◌, ◌+◌, ◌-◌, ℕ, nat_lt, if◌then◌else◌, All, List, [], ◌∷◌, length}
use Rattle.cell_calc.specs.RowValues.{at}
use Rattle.cell_calc.specs.Window.{RowWindowValue}
use Rattle.cell_calc.specs.CommonStretches.{centre_row, span_start_cells}

-- the index of the span that contains column c
abbrev pub place_of_span_at_column : List ℕ → ℕ → ℕ
place_of_span_at_column [] c = 0
place_of_span_at_column (w ∷ widths) c = if nat_lt c w then 0 else place_of_span_at_column widths (c - w) + 1

-- the window's row does not change in `width` columns, counted from `from`
abbrev pub WindowRowIsUnchangedInColumns : (from width : ℕ) → RowWindowValue → Type 0
WindowRowIsUnchangedInColumns from width w = (k : ℕ) → k < width → at (centre_row w) (from + k) ≡ at (centre_row w) from

-- the window's row has `cols` columns
abbrev pub WindowRowHasWidth : ℕ → RowWindowValue → Type 0
WindowRowHasWidth cols w = length (centre_row w) ≡ cols

-- in column c, the windows' rows have the first cells of span k
abbrev pub ColumnHasFirstCellsOfSpan : List ℕ → List RowWindowValue → (k c : ℕ) → Type 0
ColumnHasFirstCellsOfSpan widths windows k c = All (λ w. at (span_start_cells (centre_row w) widths) k
    ≡ at (centre_row w) c) windows
