use Rattle.cell_ascii_lanes.proofs.NullBitLemmas.{following_first, following_each}
use Rattle.cell_ascii_lanes.proofs.null_lanes.following.Goals as goal

pub returns-clause-first : goal.returns-clause-first
returns-clause-first c = following_first c.args.bits c.args.marked

pub returns-clause-each : goal.returns-clause-each
returns-clause-each c = following_each c.args.bits c.args.marked
