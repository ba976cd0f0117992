use Rattle.std.proofs.Common.{◌≡◌, ◌++◌, length, map, take}
use Rattle.rcell_tile.specs.TileMaps.{row_with_null_halo}
use Rattle.rcell_tile.proofs.tile_maps.push_rows_with_null_halo.Given as goal

abbrev pub invariant-loop-row : goal.invariant-loop-row
invariant-loop-row l =
    record {
      rows : l.builder ≡ record {
        region = l.initial.builder.region;
        rows = l.initial.builder.rows ++ map (row_with_null_halo l.place) (take l.row l.tile.rows);
      };
      width : length l.cells.items ≡ l.place.tile.cols;
    }
