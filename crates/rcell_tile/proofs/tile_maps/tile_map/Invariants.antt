use Rattle.std.proofs.Common.{◌≡◌, length}
use Rattle.rcell_tile.proofs.TileMapLemmas.{first_tile_rows}
use Rattle.rcell_tile.proofs.tile_maps.tile_map.Given as goal

abbrev pub invariant-loop-row : goal.invariant-loop-row
invariant-loop-row l =
    record {
      rows : l.builder ≡ first_tile_rows l.place l.map l.row;
      width : length l.cells.items ≡ l.map.region.cols;
    }
