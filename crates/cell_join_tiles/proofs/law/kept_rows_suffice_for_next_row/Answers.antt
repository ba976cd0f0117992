use Rattle.cell_join_tiles.proofs.RowsLemmas.{joined-more}
use Rattle.cell_join_tiles.proofs.law.kept_rows_suffice_for_next_row.Goals as goal

pub returns : goal.returns
returns c = λ grid row old new mid are joining clumps within meet above tiles. joined-more grid row old new mid are joining clumps within meet above tiles
