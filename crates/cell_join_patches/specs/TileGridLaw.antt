-- What the runs of a numbering say about a full map that is cut into a grid of tiles: the number of each cell's clump,
-- and the measures of patches.
use Rattle.std.specs.List.{range_with_len}
use Rattle.std.specs.List.Sorted.{IsStrictlySortedBy}
use Rattle.std.specs.Map.{keys_of, values_of}
use Rattle.std.specs.Option.{option_map}
use Rattle.std.specs.Ordering.{nat_cmp}
use Rattle.std.specs.Prelude.{ℕ, pos, negsuc, ◌≡◌, ◌⊎◌, ◌↔◌, ◌+◌, ◌*◌, ◌<◌, ◌≤◌, ◌==◌, ◌&&◌, Bool, true, List, length}
use Rattle.std.specs.Prelude.{map, take, sum, All, Contains, count_by, Some, None, slice_index}
use Rattle.cell_clumps.specs.declared.clump.Joining.{Joining}
use Rattle.cell_clumps.specs.Clumps.{Position, cell_at_position, IsClumpMapOf}
use Rattle.cell_clumps.specs.ClumpLaw.{NumberOccursInMap}
use Rattle.cell_core.specs.Grid.{Grid, CellValue, RowsFillRegion}
use Rattle.cell_join_numbers.specs.ClumpParts.{position_in_full_map}
use Rattle.cell_join_numbers.specs.declared.stretch.ConsecutiveClumps.{ConsecutiveClumps}
use Rattle.cell_join_patches.specs.declared.part.PatchOfTile.{PatchOfTile}
use Rattle.cell_join_patches.specs.JoinedPatches.{AreJoinedPatches}
use Rattle.cell_join_patches.specs.PatchNumbers.{number_in_full_map}
use Rattle.cell_join_tiles.specs.Beginnings.{MapIsCutIntoTiles, rectangle_of_tile_in_grid}
use Rattle.cell_join_tiles.specs.JoinedBorders.{TilesHaveBorders}
use Rattle.cell_join_tiles.specs.JoinedTiles.{AreConsecutiveClumpsOfTiles}
use Rattle.cell_join_tiles.specs.Values.{TileBorderValue}
use Rattle.cell_patches.specs.declared.patch.Patch.{Patch}
use Rattle.cell_patches.specs.declared.tile_position.TilePosition.{TilePosition}
use Rattle.cell_patches.specs.Patches.{AreMeasuresOfAllPatches, AreMeasuresOfPatch, is_in_patch}
use Rattle.cell_patches.specs.TilePatches.{AreMeasuresOfPatchInTile}

-- ---- a numbered grid of tiles

-- the number of the tile in row r and column c of a grid with this number of columns: tiles are counted from 1, row by
-- row
abbrev pub tile_number_in_grid : (cols r c : ℕ) → ℕ
tile_number_in_grid cols r c = r * cols + c + 1

-- a full map is cut into a grid of tiles; `numbers` is the clump map of the full map, and `numbers_of r c` of a tile;
-- `runs` are the runs of the tiles' borders
pub record IsNumberedTileGrid (j : Joining) (whole numbers : Grid) (heights widths : List ℕ)
    (map_of numbers_of : ℕ → ℕ → Grid) (runs : List ConsecutiveClumps) : Type 0 where
  pub cut : MapIsCutIntoTiles whole heights widths map_of
  pub clumping : IsClumpMapOf j whole numbers
  pub borders : List (List TileBorderValue)
  pub tiles : TilesHaveBorders j heights widths map_of numbers_of borders
  pub numbering : AreConsecutiveClumpsOfTiles j borders runs

-- ---- r.clump

-- a cell of the full map's clump map, given the cell of its tile's clump map: the runs replace the number; null stays
-- null
abbrev pub cell_with_full_map_number : List ConsecutiveClumps → (tile : ℕ) → CellValue → CellValue
cell_with_full_map_number runs tile None = None
cell_with_full_map_number runs tile (Some (pos k)) = option_map pos (number_in_full_map runs tile k)
cell_with_full_map_number runs tile (Some (negsuc k)) = None

-- each cell of each tile's clump map, with the number that the runs give to it, is the cell of the full map's clump map
abbrev pub RenumberedTilesAreFullClumpMap : Type 0
RenumberedTilesAreFullClumpMap = (j : Joining) (whole numbers : Grid) (heights widths : List ℕ)
    (map_of numbers_of : ℕ → ℕ → Grid) (runs : List ConsecutiveClumps)
    → IsNumberedTileGrid j whole numbers heights widths map_of numbers_of runs
    → (r c : ℕ) → r < length heights → c < length widths
    → (p : Position) → p.row < slice_index heights r → p.col < slice_index widths c
    → cell_at_position numbers (position_in_full_map (rectangle_of_tile_in_grid heights widths r c) p)
    ≡ cell_with_full_map_number runs (tile_number_in_grid (length widths) r c) (cell_at_position (numbers_of r c) p)

-- ---- joined patches

-- the full map has the size of the grid, and the tiles' clump maps fill their tiles
pub record HaveSizesOfTileGrid (whole : Grid) (heights widths : List ℕ) (numbers_of : ℕ → ℕ → Grid) : Type 0 where
  pub rows : whole.region.rows ≡ sum heights
  pub cols : whole.region.cols ≡ sum widths
  pub tile_rows : (r c : ℕ) → r < length heights → c < length widths
      → (numbers_of r c).region.rows ≡ slice_index heights r
  pub tile_cols : (r c : ℕ) → r < length heights → c < length widths
      → (numbers_of r c).region.cols ≡ slice_index widths c
  pub filled : (r c : ℕ) → r < length heights → c < length widths
      → RowsFillRegion (numbers_of r c).region (numbers_of r c).rows

-- the position of a tile in the full map
abbrev pub position_of_tile_in_grid : (heights widths : List ℕ) → (r c : ℕ) → TilePosition
position_of_tile_in_grid heights widths r c = record {
  top = sum (take r heights);
  left = sum (take c widths);
  first_row = sum (take r heights);
  first_col = sum (take c widths);
}

-- the part is a patch of a tile of the grid, with its number and its measures in the full map
pub record IsPatchOfTileGrid (whole : Grid) (heights widths : List ℕ) (numbers_of : ℕ → ℕ → Grid)
    (runs : List ConsecutiveClumps) (depth : ℕ) (part : PatchOfTile) : Type 0 where
  pub row : ℕ
  pub col : ℕ
  pub in_rows : row < length heights
  pub in_cols : col < length widths
  pub tile : part.tile ≡ tile_number_in_grid (length widths) row col
  pub number : number_in_full_map runs part.tile part.number ≡ Some part.full_map_number
  pub measures : AreMeasuresOfPatchInTile whole (position_of_tile_in_grid heights widths row col) (numbers_of row col)
      depth part.number part.patch

-- the part is this patch of the tile with this number
abbrev pub is_patch_of_tile : (tile number : ℕ) → PatchOfTile → Bool
is_patch_of_tile tile number part = part.tile == tile && part.number == number

-- a patch of a tile is open if it has a cell in the tile's first or last row or column, and otherwise closed
pub record IsOpenPatch (numbers : Grid) (n : ℕ) : Type 0 where
  pub row : ℕ
  pub col : ℕ
  pub in_patch : is_in_patch numbers n row col ≡ true
  pub at_border : ((row ≡ 0) ⊎ (row + 1 ≡ numbers.region.rows)) ⊎ ((col ≡ 0) ⊎ (col + 1 ≡ numbers.region.cols))

-- a closed patch of a tile is a patch of the full map with the same measures, and no other patch of a tile has its
-- number in the full map
abbrev pub ClosedPatchesAreFullMapPatches : Type 0
ClosedPatchesAreFullMapPatches = (j : Joining) (whole numbers : Grid) (heights widths : List ℕ)
    (map_of numbers_of : ℕ → ℕ → Grid) (runs : List ConsecutiveClumps)
    → IsNumberedTileGrid j whole numbers heights widths map_of numbers_of runs
    → HaveSizesOfTileGrid whole heights widths numbers_of
    → (depth : ℕ) (part : PatchOfTile)
    → (is : IsPatchOfTileGrid whole heights widths numbers_of runs depth part)
    → ¬ IsOpenPatch (numbers_of is.row is.col) part.number
    → AreMeasuresOfPatch whole numbers depth part.full_map_number part.patch
    × ((other : PatchOfTile) → IsPatchOfTileGrid whole heights widths numbers_of runs depth other
    → other.full_map_number ≡ part.full_map_number → (other.tile ≡ part.tile) × (other.number ≡ part.number))

-- the parts are patches of tiles, none of them listed twice; if a part of a full map's patch is listed, all its open
-- parts are listed
pub record AreJoinableParts (whole : Grid) (heights widths : List ℕ) (numbers_of : ℕ → ℕ → Grid)
    (runs : List ConsecutiveClumps) (depth : ℕ) (parts : List PatchOfTile) : Type 0 where
  pub each : All (IsPatchOfTileGrid whole heights widths numbers_of runs depth) parts
  pub once : (tile number : ℕ) → count_by (is_patch_of_tile tile number) parts ≤ 1
  pub all_open : (part : PatchOfTile) → Contains parts part → (r c k : ℕ) → r < length heights → c < length widths
      → IsOpenPatch (numbers_of r c) k
      → number_in_full_map runs (tile_number_in_grid (length widths) r c) k ≡ Some part.full_map_number
      → 0 < count_by (is_patch_of_tile (tile_number_in_grid (length widths) r c) k) parts

-- patches that are joined from such parts have the parts' numbers in the full map, and are the full map's patches with
-- these numbers
abbrev pub JoinedPartsAreFullMapPatches : Type 0
JoinedPartsAreFullMapPatches = (j : Joining) (whole numbers : Grid) (heights widths : List ℕ)
    (map_of numbers_of : ℕ → ℕ → Grid) (runs : List ConsecutiveClumps)
    → IsNumberedTileGrid j whole numbers heights widths map_of numbers_of runs
    → HaveSizesOfTileGrid whole heights widths numbers_of
    → (depth : ℕ) (parts : List PatchOfTile) → AreJoinableParts whole heights widths numbers_of runs depth parts
    → (patches : List (ℕ × Patch)) → AreJoinedPatches parts patches
    → IsStrictlySortedBy nat_cmp (keys_of patches)
    × ((n : ℕ) → Contains (keys_of patches) n ↔ Contains (map (λ part. part.full_map_number) parts) n)
    × ((n : ℕ) (patch : Patch) → Contains patches (n, patch) → AreMeasuresOfPatch whole numbers depth n patch)

-- the parts are the patches of all tiles, each of them once
pub record AreAllPatchesOfTileGrid (whole : Grid) (heights widths : List ℕ) (numbers_of : ℕ → ℕ → Grid)
    (runs : List ConsecutiveClumps) (depth : ℕ) (parts : List PatchOfTile) : Type 0 where
  pub each : All (IsPatchOfTileGrid whole heights widths numbers_of runs depth) parts
  pub once : (r c k : ℕ) → r < length heights → c < length widths → NumberOccursInMap (numbers_of r c) k
      → count_by (is_patch_of_tile (tile_number_in_grid (length widths) r c) k) parts ≡ 1

-- the patches that are joined from the patches of all tiles are all patches of the full map: they are numbered 1, 2, ..
-- and have the measures of these patches
abbrev pub JoinedPatchesAreFullMapPatches : Type 0
JoinedPatchesAreFullMapPatches = (j : Joining) (whole numbers : Grid) (heights widths : List ℕ)
    (map_of numbers_of : ℕ → ℕ → Grid) (runs : List ConsecutiveClumps)
    → IsNumberedTileGrid j whole numbers heights widths map_of numbers_of runs
    → HaveSizesOfTileGrid whole heights widths numbers_of
    → (depth : ℕ) (parts : List PatchOfTile)
    → AreAllPatchesOfTileGrid whole heights widths numbers_of runs depth parts
    → (patches : List (ℕ × Patch)) → AreJoinedPatches parts patches
    → (keys_of patches ≡ range_with_len 1 (length patches))
    × AreMeasuresOfAllPatches whole numbers depth (values_of patches)
