use Rattle.std.proofs.Common.{◌≡◌, length, map, take, All}
use Rattle.cell_stats_combinations.specs.Cursors.{to_come, CursorHasNoEmptyLaterRun, row_of_map_at_place}
use Rattle.cell_stats_combinations.proofs.cursor.move_cursors_to_row_start.Given as goal

abbrev pub invariant-loop-i : goal.invariant-loop-i
invariant-loop-i l = record {
  cells : map to_come (take l.i l.cursors) ≡ map (row_of_map_at_place l.shelf.maps l.row) (take l.i l.picks);
  width : All (λ place. length (row_of_map_at_place l.shelf.maps l.row place) ≡ l.shelf.region.cols) (take l.i l.picks);
  ready : All CursorHasNoEmptyLaterRun (take l.i l.cursors);
}
