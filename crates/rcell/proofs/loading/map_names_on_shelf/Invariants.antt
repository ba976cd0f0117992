use Rattle.std.proofs.Common.{◌≡◌, take}
use Rattle.rcell.proofs.loading.map_names_on_shelf.Given as goal

abbrev pub invariant-loop-i : goal.invariant-loop-i
invariant-loop-i l = l.names ≡ take l.i l.shelf.names
