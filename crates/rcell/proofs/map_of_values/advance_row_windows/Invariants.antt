use Rattle.std.proofs.Common.{◌≡◌, ◌≤◌, ◌+◌, ℕ}
use Rattle.std.specs.Prelude.{slice_get}
use Rattle.rcell.specs.parts.WindowsSet.{AreWindowsOfFirstMapsAtRow, maps_at_places}
use Rattle.rcell.proofs.map_of_values.advance_row_windows.Given as goal

abbrev pub invariant-loop-i : goal.invariant-loop-i
invariant-loop-i l =
    record {
      done : AreWindowsOfFirstMapsAtRow l.bound l.i (l.row + 1) l.windows (maps_at_places l.places l.maps);
      rest : (i : ℕ) → l.i ≤ i → slice_get l.windows i ≡ slice_get l.initial.windows i;
    }
