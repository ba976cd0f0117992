use Rattle.std.proofs.Common.{◌≡◌, drop}
use Rattle.rcell_tile.specs.HaloMargins.{margins_after_statements, margins_of_maps, halo_margin}
use Rattle.rcell_tile.proofs.halo_margins.margins_of_maps.Given as goal

abbrev pub invariant-loop-statement : goal.invariant-loop-statement
invariant-loop-statement l =
    margins_after_statements (halo_margin l.place) l.known.items (drop l.statement-index l.statements)
    ≡ margins_of_maps l.place l.count l.statements
