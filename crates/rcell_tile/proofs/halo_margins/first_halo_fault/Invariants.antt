use Rattle.std.proofs.Common.{◌≡◌, drop}
use Rattle.rcell_tile.specs.HaloMargins.{first_fault_with_margins, first_halo_fault, halo_margin}
use Rattle.rcell_tile.proofs.halo_margins.first_halo_fault.Given as goal

abbrev pub invariant-loop-statement : goal.invariant-loop-statement
invariant-loop-statement l =
    first_fault_with_margins (halo_margin l.place) l.known.items (drop l.statement-index l.statements)
    ≡ first_halo_fault l.place l.count l.statements
