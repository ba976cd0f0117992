-- The spans of a row: adjacent columns in which no window's row changes.
use Rattle.std.specs.Prelude.{◌≡◌, ◌≤◌, ◌+◌, ℕ, pos, All, List, [], ◌∷◌, ◌++◌, Some, length, drop, map, replicate}
use Rattle.cell_core.specs.Grid.{CellValue}
use Rattle.cell_calc.specs.RowValues.{at}
use Rattle.cell_calc.specs.Window.{RowWindowValue}
use Rattle.cell_calc.specs.WindowsOver.{row_below_window_centre}

-- the row at a window's centre
abbrev pub centre_row : RowWindowValue → List CellValue
centre_row w = row_below_window_centre (pos 0) (Some w)

-- the number of columns of spans with these widths
abbrev pub total_span_width : List ℕ → ℕ
total_span_width [] = 0
total_span_width (w ∷ widths) = w + total_span_width widths

-- the row in which each value is repeated for the columns of its span
abbrev pub spread_values_over_spans : List CellValue → List ℕ → List CellValue
spread_values_over_spans [] widths = []
spread_values_over_spans (x ∷ xs) [] = []
spread_values_over_spans (x ∷ xs) (w ∷ widths) = replicate w x ++ spread_values_over_spans xs widths

-- the first cell of each span
abbrev pub span_start_cells : List CellValue → List ℕ → List CellValue
span_start_cells row [] = []
span_start_cells row (w ∷ widths) = at row 0 ∷ span_start_cells (drop w row) widths

-- the window's row can be rebuilt from the first cells of its spans
abbrev pub WindowRowIsRebuiltFromSpans : List ℕ → RowWindowValue → Type 0
WindowRowIsRebuiltFromSpans widths w = spread_values_over_spans (span_start_cells (centre_row w) widths) widths
    ≡ centre_row w

-- the widths of spans that divide `cols` columns, such that no window's row changes within a span
pub record AreCommonSpanWidths (cols : ℕ) (windows : List RowWindowValue) (widths : List ℕ) : Type 0 where
  pub all : total_span_width widths ≡ cols
  pub few : length widths ≤ cols
  pub go : All (WindowRowIsRebuiltFromSpans widths) windows

-- the windows `short` hold only the first cell of each span
abbrev pub AreWindowsOfFirstSpanCells : List ℕ → (windows short : List RowWindowValue) → Type 0
AreWindowsOfFirstSpanCells widths windows short = map centre_row short
    ≡ map (λ w. span_start_cells (centre_row w) widths) windows
