use Rattle.std.proofs.Common.{◌≡◌, ◌++◌, replicate}
use Rattle.rcell_tile.proofs.tile_maps.push_null_rows.Given as goal

abbrev pub invariant-loop : goal.invariant-loop
invariant-loop l =
    l.builder ≡ record {
      region = l.initial.builder.region;
      rows = l.initial.builder.rows ++ replicate l.counter l.nulls;
    }
