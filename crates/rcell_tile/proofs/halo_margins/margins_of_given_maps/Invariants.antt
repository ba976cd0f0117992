use Rattle.std.proofs.Common.{◌≡◌, replicate}
use Rattle.rcell_tile.proofs.halo_margins.margins_of_given_maps.Given as goal

abbrev pub invariant-loop : goal.invariant-loop
invariant-loop l = l.known.items ≡ replicate l.counter l.halo
