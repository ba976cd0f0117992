use Rattle.std.proofs.Common.{◌≡◌, ◌<◌, ◌≤◌, length, map, take, drop, All}
use Rattle.cell_stats_combinations.specs.Cursors.{to_come, CursorHasNoEmptyLaterRun}
use Rattle.cell_stats_combinations.proofs.cursor.advance_cursors_and_write_cells.Given as goal

abbrev pub invariant-loop-i : goal.invariant-loop-i
invariant-loop-i l = record {
  cells : take l.i l.cells ≡ map (λ c. c.cell) (take l.i l.cursors);
  passed : map to_come (take l.i l.cursors) ≡ map (λ c. drop l.count (to_come c)) (take l.i l.fn.cursors);
  rest : drop l.i l.cursors ≡ drop l.i l.fn.cursors;
  width : length l.cells ≡ length l.cursors;
  ready : All CursorHasNoEmptyLaterRun l.cursors;
  least : All (λ c. l.least ≤ c.left) (take l.i l.cursors);
  most : l.least ≤ l.left;
  some : All (λ c. 0 < c.left) (take l.i l.cursors) → 0 < l.left → 0 < l.least;
}
