-- The error for a grid that the shelf rejects.
use Rattle.std.specs.Prelude.{ℕ, ◌<◌}
use Rattle.cell_core.specs.declared.shelf.ShelfFault.{ShelfFault}
use Rattle.cell_core.specs.declared.shelf.ShelfFault.TheVariants as refusals
use Rattle.rcell.specs.RunFaults.{FaultNamesNoOtherGrid, IsFaultBeforeExecution, FaultNamesOneOfGrids}
use Rattle.rcell.specs.declared.run_fault.RunFault.{RunFault}
use Rattle.rcell.specs.declared.run_fault.RunFault.TheVariants as faults

-- the error for the grid with this index
abbrev pub run_fault_of_shelf_fault : ℕ → ShelfFault → RunFault
run_fault_of_shelf_fault grid refusals.Exists = faults.GridTwice grid
run_fault_of_shelf_fault grid refusals.OtherRegion = faults.GridRegion grid
run_fault_of_shelf_fault grid refusals.Memory = faults.Memory 0

-- an error in this grid, reported before execution
pub record IsFaultInGridBeforeExecution (grid : ℕ) (fault : RunFault) : Type 0 where
  pub early : IsFaultBeforeExecution fault
  pub reported : (count : ℕ) → grid < count → FaultNamesOneOfGrids count fault
  pub whose : FaultNamesNoOtherGrid grid fault
