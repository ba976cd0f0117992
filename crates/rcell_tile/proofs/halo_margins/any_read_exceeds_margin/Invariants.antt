use Rattle.std.proofs.Common.{◌≡◌, drop}
use Rattle.std.specs.List.{list_any}
use Rattle.rcell_tile.specs.HaloMargins.{read_exceeds_margin}
use Rattle.rcell_tile.proofs.halo_margins.any_read_exceeds_margin.Given as goal

abbrev pub invariant-loop-read : goal.invariant-loop-read
invariant-loop-read l =
    list_any (read_exceeds_margin l.known) (drop l.read-index l.reads) ≡
    list_any (read_exceeds_margin l.known) l.reads
