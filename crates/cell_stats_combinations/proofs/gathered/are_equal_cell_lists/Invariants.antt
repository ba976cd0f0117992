use Rattle.std.proofs.Common.{◌≡◌, take}
use Rattle.cell_stats_combinations.proofs.gathered.are_equal_cell_lists.Given as goal

abbrev pub invariant-loop-i : goal.invariant-loop-i
invariant-loop-i l = take l.i l.one ≡ take l.i l.other
