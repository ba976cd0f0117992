use Rattle.cell_core_values.specs.SameRegion.{is_same_region-Decides}
use Rattle.cell_core_values.proofs.region.RegionPartialEq.eq.Goals as goal

-- comparing all six numbers decides equality
pub returns-clause-same : goal.returns-clause-same
returns-clause-same c = rw c.is_same_region.ensures (is_same_region-Decides c.args.self.now c.args.other.now)
