-- Clumps by edges compared with clumps by edges and corners: connecting corners only merges clumps.
use Rattle.std.specs.Prelude.{ℕ, pos, ◌≡◌, ◌≤◌, [], ◌∷◌, Some, IsSome, Contains}
use Rattle.cell_core.specs.Grid.{Grid, CellValue}
use Rattle.cell_clumps.specs.declared.clump.Joining.TheVariants.{Edges, EdgesAndCorners}
use Rattle.cell_clumps.specs.Clumps.{Position, cell_at_position, IsClumpMapOf}
use Rattle.cell_clumps.specs.ClumpLaw.{NumberOccursInMap}
use Rattle.cell_stats_combinations.specs.declared.skip.Skip.{Skip}
use Rattle.cell_stats_combinations.specs.Combinations.{all_combinations}
use Rattle.cell_stats.specs.CategoryTables.{CombinationsWithCounts, IsTable}

-- the two clump maps of a map
pub record AreClumpMapsByBothConnectivities (m edges corners : Grid) : Type 0 where
  pub by_edges : IsClumpMapOf Edges m edges
  pub by_corners : IsClumpMapOf EdgesAndCorners m corners

-- cells in the same clump by edges are in the same clump by edges and corners
abbrev pub CornersOnlyJoinClumps : Type 0
CornersOnlyJoinClumps = (m edges corners : Grid) → AreClumpMapsByBothConnectivities m edges corners → (p q : Position)
    → IsSome (cell_at_position edges p) → cell_at_position edges p ≡ cell_at_position edges q
    → cell_at_position corners p ≡ cell_at_position corners q

-- connecting corners adds no clumps: each number that occurs by edges and corners also occurs by edges
abbrev pub CornersAddNoClump : Type 0
CornersAddNoClump = (m edges corners : Grid) → AreClumpMapsByBothConnectivities m edges corners → (n : ℕ)
    → NumberOccursInMap corners n
    → NumberOccursInMap edges n
