use Rattle.std.proofs.Common.{◌≡◌, length}
use Rattle.cell_core_devices.specs.Blocks.{IsTextAppendedThroughBlock}
use Rattle.cell_stats_combinations.specs.Combinations.{all_combinations}
use Rattle.cell_stats.specs.TableText.{cell_line}
use Rattle.cell_stats.proofs.CellsLemmas.{kept_text}
use Rattle.cell_stats.proofs.printed_cells.write_line_for_each_cell.Given as goal

abbrev pub invariant-loop-row : goal.invariant-loop-row
invariant-loop-row g l = record {
  appends : IsTextAppendedThroughBlock g.W.Sink.taken g.W.Sink.faults l.fn.out l.fn.block (kept_text (cell_line l.format l.shelf.maps l.picks) l.fn.skip (all_combinations l.shelf.maps l.picks l.row l.shelf.region.cols)) l.out l.block;
  cursors : length l.cursors ≡ length l.picks;
  cells : length l.cells ≡ length l.picks;
}
