-- Every map has a clump map.
use Rattle.cell_core.specs.Grid.{Grid, RowsFillRegion}
use Rattle.cell_clumps.specs.declared.clump.Joining.{Joining}
use Rattle.cell_clumps.specs.Clumps.{IsClumpMapOf}

-- every filled map has a clump map for each adjacency, which is also filled
abbrev pub ClumpMapExists : Type 0
ClumpMapExists = (j : Joining) (m : Grid) → RowsFillRegion m.region m.rows
    → (numbers : Grid) × (RowsFillRegion numbers.region numbers.rows × IsClumpMapOf j m numbers)
