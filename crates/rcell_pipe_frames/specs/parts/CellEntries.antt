-- What r.stats -1 writes for each cell.
use Rattle.std.specs.Prelude.{ℕ, List, [], ◌∷◌, flat_map}
use Rattle.std.specs.List.{zip}
use Rattle.cell_core.specs.Grid.{Grid}
use Rattle.cell_stats_combinations.specs.declared.skip.Skip.{Skip}
use Rattle.cell_stats_combinations.specs.Combinations.{Combination, row_combinations, shelf_combinations}
use Rattle.cell_stats_combinations.specs.LeftOut.{kept_cells}
use Rattle.cell_stats_combinations.specs.declared.selection.TabulatedMaps.{TabulatedMaps}
use Rattle.cell_stats.specs.TableText.{label_of_cell}
use Rattle.rcell_pipe_frames.specs.declared.cells_frame.EntryPart.{EntryPart}
use Rattle.rcell_pipe_frames.specs.declared.cells_frame.EntryPart.TheVariants as parts
use Rattle.rcell_pipe_frames.specs.FrameBytes.{length_and_text_bytes, four_bytes_of_cell}

-- one part of an entry: a byte for counting, its cells, or their labels
abbrev pub entry_part_bytes : EntryPart → List Grid → List ℕ → Combination → List ℕ
entry_part_bytes parts.Mark maps places k = 0 ∷ []
entry_part_bytes parts.Cells maps places k = flat_map four_bytes_of_cell k
entry_part_bytes parts.Labels maps places k = flat_map (λ p. length_and_text_bytes (label_of_cell maps p.0 p.1))
    (zip places k)

-- the results of `f` for all combinations that are not left out, one after another
abbrev pub bytes_of_kept_combinations : (Combination → List ℕ) → Skip → List Combination → List ℕ
bytes_of_kept_combinations f skip cells = flat_map f (kept_cells skip cells)

abbrev pub bytes_of_kept_entry_parts : EntryPart → TabulatedMaps → List Combination → List ℕ
bytes_of_kept_entry_parts part s cells = bytes_of_kept_combinations
    (entry_part_bytes part s.shelf.now.maps s.picks.now) s.skip cells

-- the combinations of a row, and of all rows
abbrev pub combinations_of_selected_map_row : TabulatedMaps → ℕ → List Combination
combinations_of_selected_map_row s row = row_combinations s.shelf.now.maps s.picks.now s.shelf.now.region.cols row

abbrev pub combinations_of_selected_maps : TabulatedMaps → List Combination
combinations_of_selected_maps s = shelf_combinations s.shelf.now s.picks.now
