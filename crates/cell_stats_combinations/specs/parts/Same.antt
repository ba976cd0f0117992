-- Equal combinations.
use Rattle.std.specs.Prelude.{Bool}
use Rattle.std.specs.Ordering.{eq_by_cmp}
use Rattle.cell_stats_combinations.specs.Combinations.{Combination, combination_cmp}

-- the two combinations are equal
abbrev pub are_same_combination : Combination → Combination → Bool
are_same_combination = eq_by_cmp combination_cmp
