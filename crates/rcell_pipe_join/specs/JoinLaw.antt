-- What the frame of a numbering says about each map that is cut into the tiles.
use Rattle.std.specs.Prelude.{ℕ, ◌+◌, ◌-◌, List, flat_map}
use Rattle.std.specs.List.{range_with_len}
use Rattle.cell_clumps.specs.declared.clump.Joining.{Joining}
use Rattle.cell_join_numbers.specs.declared.stretch.ConsecutiveClumps.{ConsecutiveClumps}
use Rattle.cell_join_tiles.specs.JoinedTiles.{AreClumpNumbersOfTileGrid, IsClumpCountOfTileGrid}
use Rattle.cell_join_tiles.specs.Values.{TileBorderValue}
use Rattle.rcell_pipe_join.specs.JoinEnds.{IsTileNumberingResponse}

-- the numbers in the full map of a run's patches, in order
abbrev pub full_map_numbers_of_run : ConsecutiveClumps → List ℕ
full_map_numbers_of_run run = range_with_len run.number (run.last + 1 - run.first)

-- the numbers of all runs, one run after another, are the numbers in the full map of the tiles' patches, tile by tile;
-- and `patches` is the number of patches of the full map
abbrev pub RunsNumberFullMapPatches : Type 0
RunsNumberFullMapPatches = (joining : Joining) (grid : List (List TileBorderValue)) (response : List ℕ)
    → (frame : IsTileNumberingResponse joining grid response)
    → AreClumpNumbersOfTileGrid joining grid (flat_map full_map_numbers_of_run frame.runs)
    × IsClumpCountOfTileGrid joining grid frame.patches
