use Rattle.std.proofs.Common.{◌≡◌, ◌++◌, length, take, drop, map}
use Rattle.cell_core.specs.parts.RowForms.{run_start_marks}
use Rattle.cell_core.proofs.MarkLemmas.{flag}
use Rattle.cell_core.proofs.runs.run_start_bits_in_block.Given as goal

abbrev pub invariant-loop-j : goal.invariant-loop-j
invariant-loop-j l = record {
  size : length l.flags ≡ 64;
  marked : take l.j l.flags ++ map flag (run_start_marks l.last (drop l.j l.block))
      ≡ map flag (run_start_marks l.fn.cell l.block);
}
