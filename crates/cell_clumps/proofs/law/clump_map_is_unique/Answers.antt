use Rattle.cell_clumps.proofs.LawLemmas.{clump_map_is_unique}
use Rattle.cell_clumps.proofs.law.clump_map_is_unique.Goals as goal

pub returns : goal.returns
returns c = clump_map_is_unique
