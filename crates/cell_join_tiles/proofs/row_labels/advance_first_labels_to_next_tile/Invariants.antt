use Rattle.cell_join_tiles.proofs.BeforeLemmas.{IsPassed}
use Rattle.cell_join_tiles.proofs.row_labels.advance_first_labels_to_next_tile.Given as goal

abbrev pub invariant-loop-row : goal.invariant-loop-row
invariant-loop-row l = IsPassed l.fn.line l.begun l.row l.line
