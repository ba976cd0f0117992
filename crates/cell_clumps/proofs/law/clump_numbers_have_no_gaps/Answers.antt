use Rattle.cell_clumps.proofs.CountLemmas.{clump_numbers_have_no_gaps}
use Rattle.cell_clumps.proofs.law.clump_numbers_have_no_gaps.Goals as goal

pub returns : goal.returns
returns c = clump_numbers_have_no_gaps
