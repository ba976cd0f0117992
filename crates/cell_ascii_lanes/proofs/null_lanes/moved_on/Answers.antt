use Rattle.cell_ascii_lanes.proofs.NullBitLemmas.{moved_low, moved_each}
use Rattle.cell_ascii_lanes.proofs.null_lanes.moved_on.Goals as goal

pub returns-clause-low : goal.returns-clause-low
returns-clause-low c = λ i lt. moved_low c.args.bits c.args.size i c.requires lt

pub returns-clause-each : goal.returns-clause-each
returns-clause-each c = moved_each c.args.bits c.args.size
