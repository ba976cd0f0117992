use Rattle.cell_join_tiles.proofs.RiseLemmas.{rises-report-begun}
use Rattle.cell_join_tiles.proofs.law.maximum_rises_count_new_clumps.Goals as goal

pub returns : goal.returns
returns c = rises-report-begun
