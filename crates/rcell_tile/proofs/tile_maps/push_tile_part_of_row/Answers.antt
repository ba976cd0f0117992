use Rattle.std.proofs.Common.{arith}
use Rattle.rcell_tile.proofs.TileMapLemmas.{part_of_bytes}
use Rattle.rcell_tile.proofs.tile_maps.push_tile_part_of_row.Goals as goal

pub returns-in-Some-clause-ok : goal.returns-in-Some-clause-ok
returns-in-Some-clause-ok c = grind (arith, part_of_bytes)
