use Rattle.cell_core_values.specs.Cell.{cell_eq-Decides}
use Rattle.cell_core_values.proofs.cell.CellPartialEq.eq.Goals as goal

-- the test decides equality
pub returns-clause-same : goal.returns-clause-same
returns-clause-same c = rw c.is_same_cell.ensures (cell_eq-Decides c.args.self.now c.args.other.now)
