use Rattle.cell_stats_combinations.specs.parts.Joined.{AreEntriesMergedUpTo}
use Rattle.cell_stats_combinations.proofs.ordered.add_up_entries_of_combinations.Given as goal

abbrev pub invariant-loop-at : goal.invariant-loop-at
invariant-loop-at l = AreEntriesMergedUpTo l.fn.entries l.entries l.last l.at
