use Rattle.std.proofs.Common.{refl, arith}
use Rattle.cell_patches.proofs.LeadLemmas.{same_from}
use Rattle.cell_patches.proofs.zone_counts.CellCountsByPatchAndZone.add_pair.Goals as goal

pub overflow_add-self : goal.overflow_add-self
overflow_add-self c =
    let pair = c.begin_run_unless_same_pair.new.self.pair in
    let room = c.requires.room pair.0 pair.1 in
    let same = c.in_ok-begin_run_unless_same_pair.ensures.same pair.0 pair.1 in
    let now = rw (same_from pair pair refl refl) at same in
    omega arith
