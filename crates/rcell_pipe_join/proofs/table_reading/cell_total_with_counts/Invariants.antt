use Rattle.std.proofs.Common.{◌≡◌, ◌+◌, sum, take}
use Rattle.rcell_pipe_join.proofs.table_reading.cell_total_with_counts.Given as goal

abbrev pub invariant-loop-i : goal.invariant-loop-i
invariant-loop-i l = l.all ≡ l.cells + sum (take l.i l.counts)
