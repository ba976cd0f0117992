use Rattle.std.proofs.Common.{◌≡◌}
use Rattle.cell_calc_tests.proofs.tests.worked_map.Given as goal

abbrev pub invariant-loop-row : goal.invariant-loop-row
invariant-loop-row l = l.builder.region ≡ l.region
