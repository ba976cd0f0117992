use Rattle.cell_clumps.proofs.CountLemmas.{clump_numbers_end_at_clump_count}
use Rattle.cell_clumps.proofs.law.clump_numbers_end_at_clump_count.Goals as goal

pub returns : goal.returns
returns c = clump_numbers_end_at_clump_count
