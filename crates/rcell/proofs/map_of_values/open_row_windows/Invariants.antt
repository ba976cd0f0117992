use Rattle.std.proofs.Common.{◌≡◌, length}
use Rattle.rcell.specs.parts.WindowsSet.{AreWindowsOfFirstMapsAtRow, maps_at_places}
use Rattle.rcell.proofs.map_of_values.open_row_windows.Given as goal

abbrev pub invariant-loop-i : goal.invariant-loop-i
invariant-loop-i l =
    record {
      count : length l.windows.items ≡ l.i;
      set : AreWindowsOfFirstMapsAtRow l.bound l.i 0 l.windows.items (maps_at_places l.places l.maps);
    }
