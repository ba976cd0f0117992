use Rattle.std.proofs.Common.{◌≡◌, ◌<◌, ℕ, [], length, None}
use Rattle.std.specs.Prelude.{slice_index_or}
use Rattle.cell_calc_language.specs.Applied.{grid_position}
use Rattle.cell_calc_language.specs.Reach.{map_place_limit_of_formula}
use Rattle.cell_calc_language.specs.Value.{value}
use Rattle.rcell.specs.parts.WindowsSet.{AreWindowsOfFirstMapsAtRow, maps_at_places}
use Rattle.rcell.proofs.map_of_values.evaluate_over_maps.Given as goal

abbrev pub invariant-loop-row : goal.invariant-loop-row
invariant-loop-row l =
    record {
      region : l.builder.region ≡ l.region;
      count : length l.builder.rows ≡ l.row;
      width : length l.cells.items ≡ l.region.cols;
      windows : length l.windows.items ≡ map_place_limit_of_formula l.bound;
      set : l.row < l.region.rows → AreWindowsOfFirstMapsAtRow l.bound (length l.windows.items) l.row l.windows.items (maps_at_places l.places l.maps);
      cells : (r c : ℕ) → r < l.row → c < l.region.cols → slice_index_or (slice_index_or l.builder.rows r []) c None ≡ value l.bound (maps_at_places l.places l.maps) (grid_position l.region r c);
    }
