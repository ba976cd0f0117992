use Rattle.std.proofs.Common.{◌≡◌, drop}
use Rattle.rcell_tile.specs.HaloMargins.{margin_after_reads}
use Rattle.rcell_tile.proofs.halo_margins.margin_after_reads.Given as goal

abbrev pub invariant-loop-read : goal.invariant-loop-read
invariant-loop-read l =
    margin_after_reads l.known l.inside (drop l.read-index l.reads)
    ≡ margin_after_reads l.known l.fn.margin l.reads
