-- The lines of the cells of selected maps.
use Rattle.std.specs.Prelude.{ℕ, List, flat_map}
use Rattle.cell_stats_combinations.specs.Combinations.{Combination, row_combinations}
use Rattle.cell_stats_combinations.specs.LeftOut.{kept_cells}
use Rattle.cell_stats_combinations.specs.declared.selection.TabulatedMaps.{TabulatedMaps}
use Rattle.cell_stats.specs.TableText.{TableFormatValue, cell_line}

-- a line for each of these cells that is not left out
abbrev pub lines_of_kept_cells : TableFormatValue → TabulatedMaps → List Combination → List ℕ
lines_of_kept_cells format s cells = flat_map (cell_line format s.shelf.now.maps s.picks.now) (kept_cells s.skip cells)

-- the combinations of a row
abbrev pub combinations_of_selected_row : TabulatedMaps → ℕ → List Combination
combinations_of_selected_row s row = row_combinations s.shelf.now.maps s.picks.now s.shelf.now.region.cols row
