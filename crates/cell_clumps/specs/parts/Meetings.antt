-- Properties of the labels while the labels of adjacent cells are joined one after another.
use Rattle.std.specs.Prelude.{ℕ, ◌<◌, ◌≡◌, ◌⊎◌, List, length}
use Rattle.cell_core.specs.Grid.{Grid}
use Rattle.cell_clumps.specs.declared.clump.Joining.{Joining}
use Rattle.cell_clumps.specs.Clumps.{AreCellsConnected}
use Rattle.cell_clumps.specs.parts.Labels.{LabelsLeadToRoots}
use Rattle.cell_clumps.specs.parts.Starts.{cell_that_began_label}

-- each label leads to an open label, and the cells that these labels were created for are connected
pub record LabelsLeadToConnectedRoots (j : Joining) (m : Grid) (table : List ℕ) (open_of : ℕ → ℕ) : Type 0 where
  pub reports : LabelsLeadToRoots table open_of
  pub joined : (k : ℕ) → k < length table → (open_of k ≡ k) ⊎ AreCellsConnected j m (cell_that_began_label j m k)
      (cell_that_began_label j m (open_of k))
