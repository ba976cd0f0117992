-- Which borders are rejected.
use Rattle.std.specs.Prelude.{ℕ, ◌≡◌, ◌<◌, true}
use Rattle.cell_core.specs.Grid.{Grid}
use Rattle.cell_clumps.specs.declared.clump.Joining.{Joining}
use Rattle.cell_join_tiles.specs.JoinedBorders.{TileHasBorder}
use Rattle.cell_join_tiles.specs.Values.{TileBorderValue}
use Rattle.rcell_pipe_borders.specs.BorderChecks.{is_valid_border}

-- the border of a tile is not a bad border
abbrev pub BordersOfTilesAreValid : Type 0
BordersOfTilesAreValid = (joining : Joining) (rows cols : ℕ) (m numbers : Grid) (border : TileBorderValue) → 0 < rows
    → 0 < cols
    → TileHasBorder joining rows cols m numbers border → is_valid_border border ≡ true
