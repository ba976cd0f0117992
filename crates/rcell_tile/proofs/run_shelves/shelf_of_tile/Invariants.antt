use Rattle.std.proofs.Common.{◌≡◌}
use Rattle.rcell_tile.proofs.ShelfLemmas.{first_tile_maps}
use Rattle.rcell_tile.proofs.run_shelves.shelf_of_tile.Given as goal

abbrev pub invariant-loop-i : goal.invariant-loop-i
invariant-loop-i l = l.inner ≡ first_tile_maps l.place l.outer l.i
