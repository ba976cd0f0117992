-- Laws about the measures of a tile's patches.
use Rattle.std.specs.Prelude.{ℕ, ◌<◌, ◌↔◌}
use Rattle.cell_core.specs.Grid.{Grid, RowsFillRegion}
use Rattle.cell_clumps.specs.declared.clump.Joining.{Joining}
use Rattle.cell_clumps.specs.Clumps.{IsClumpMapOf}
use Rattle.cell_patches.specs.declared.patch.Patch.{Patch}
use Rattle.cell_patches.specs.declared.tile_position.TilePosition.{TilePosition}
use Rattle.cell_patches.specs.Patches.{AreMeasuresOfPatch}
use Rattle.cell_patches.specs.TilePatches.{AreMeasuresOfPatchInTile, ContainsTileWithHalo, position_of_full_map}
use Rattle.cell_patches.specs.TilePatches.{position_in_its_full_map}

-- the measures of a patch of the full map, as its only tile, are the measures of the patch
abbrev pub FullMapIsTileOfItself : Type 0
FullMapIsTileOfItself = (j : Joining) (m numbers : Grid) (depth n : ℕ) (patch : Patch) → IsClumpMapOf j m numbers
    → AreMeasuresOfPatchInTile m position_of_full_map numbers depth n patch ↔ AreMeasuresOfPatch m numbers depth n patch

-- a map that contains a tile with a halo gives the measures that the full map gives
abbrev pub HaloDeterminesMeasures : Type 0
HaloDeterminesMeasures = (whole part numbers : Grid) (position : TilePosition) (depth n : ℕ) (patch : Patch)
    → 0 < depth → RowsFillRegion numbers.region numbers.rows
    → ContainsTileWithHalo whole part position numbers.region depth
    → AreMeasuresOfPatchInTile part position numbers depth n patch
    ↔ AreMeasuresOfPatchInTile whole (position_in_its_full_map position) numbers depth n patch
