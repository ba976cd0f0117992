use Rattle.std.proofs.Common.{arith}
use Rattle.cell_patches.specs.parts.Leads.{same_pair}
use Rattle.cell_patches.proofs.LeadLemmas.{idle}
use Rattle.cell_patches.proofs.zone_counts.CellCountsByPatchAndZone.begin_run_unless_same_pair.Goals as goal

pub returns-clause-same : goal.returns-clause-same
returns-clause-same c = λ v z.
    let closed = c.in_ok-close.ensures.closed in
    let here = idle (same_pair c.args.pair (v, z)) c.close.new.self.run closed in
    let before = idle (same_pair c.close.new.self.pair (v, z)) c.close.new.self.run closed in
    let same = c.in_ok-close.ensures.same v z in
    omega arith
