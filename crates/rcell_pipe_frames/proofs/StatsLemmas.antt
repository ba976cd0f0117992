-- The frame of r.stats is the frame of a table or of cells.
use Rattle.std.proofs.Common.{◌≡◌, ℕ, List, false, true, refl}
use Rattle.std.specs.Prelude.{codes}
use Rattle.cell_core.specs.Shelf.{ShelfValue}
use Rattle.cell_stats_combinations.specs.Combinations.{shelf_combinations}
use Rattle.cell_stats.specs.CategoryTables.{CombinationsWithCounts, table_of_cells}
use Rattle.cell_stats.specs.TableText.{table_entries_to_print}
use Rattle.rcell_script.specs.declared.command.StatsOptions.{StatsOptions}
use Rattle.rcell.specs.Output.{table_format_of_stats_options}
use Rattle.rcell_pipe_frames.specs.Frames.{entries_of_single_printed_cells, format_of_single_cell_lines, table_frame}
use Rattle.rcell_pipe_frames.specs.Frames.{stats_frame}
use Rattle.rcell_pipe_frames.specs.FrameBytes.{table_frame_bytes, frame_bytes}

-- the frame of r.stats is the frame of a table
pub table-stats : (shelf : ShelfValue) (line : ℕ) (places : List ℕ) (options : StatsOptions) (pairs : CombinationsWithCounts) → options.cells ≡ false → pairs ≡ table_of_cells options.skip (shelf_combinations shelf places)
    → table_frame_bytes (codes "TABL") (table_frame shelf line places (table_format_of_stats_options options) (table_entries_to_print options.after pairs)) ≡ frame_bytes (stats_frame shelf line places options)
table-stats shelf line places options pairs not_cells is = rw (not_cells, is) refl

-- with one entry per cell, the frame of r.stats is the frame of the cells
pub cells-stats : (shelf : ShelfValue) (line : ℕ) (places : List ℕ) (options : StatsOptions) → options.cells ≡ true
    → table_frame_bytes (codes "CELL") (table_frame shelf line places (format_of_single_cell_lines options) (entries_of_single_printed_cells shelf places options)) ≡ frame_bytes (stats_frame shelf line places options)
cells-stats shelf line places options cells = rw cells refl
