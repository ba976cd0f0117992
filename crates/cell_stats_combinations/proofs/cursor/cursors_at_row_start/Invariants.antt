use Rattle.std.proofs.Common.{◌≡◌, length, map, take, All}
use Rattle.cell_stats_combinations.specs.Cursors.{to_come, CursorHasNoEmptyLaterRun, row_of_map_at_place}
use Rattle.cell_stats_combinations.proofs.cursor.cursors_at_row_start.Given as goal

abbrev pub invariant-loop-place : goal.invariant-loop-place
invariant-loop-place l = record {
  cells : map to_come l.cursors.items ≡ map (row_of_map_at_place l.shelf.maps l.row) (take l.place-index l.picks);
  width : All (λ place. length (row_of_map_at_place l.shelf.maps l.row place)
      ≡ l.shelf.region.cols) (take l.place-index l.picks);
  ready : All CursorHasNoEmptyLaterRun l.cursors.items;
}
