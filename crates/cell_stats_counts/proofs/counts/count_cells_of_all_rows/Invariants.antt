use Rattle.std.proofs.Common.{◌≡◌, length}
use Rattle.cell_stats_counts.specs.parts.CountsUnderWay.{AreCellsAboveRowCounted, CanContinueCountingCombinations}
use Rattle.cell_stats_counts.proofs.counts.count_cells_of_all_rows.Given as goal

abbrev pub invariant-loop-row : goal.invariant-loop-row
invariant-loop-row l = record {
  counted : AreCellsAboveRowCounted l.selection.shelf.now l.selection.picks.now l.selection.skip l.row l.places
      l.entries.items;
  going : CanContinueCountingCombinations (length l.selection.picks.now) l.places l.entries.items;
  cells : length l.cells.items ≡ length l.selection.picks.now;
  cursors : length l.cursors ≡ length l.selection.picks.now;
}
