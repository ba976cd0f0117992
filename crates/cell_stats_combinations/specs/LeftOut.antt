-- Which combinations are left out (r.stats manual, flags `-n` and `-N`).
use Rattle.std.specs.Prelude.{Bool, false, not, List, filter}
use Rattle.std.specs.List.{list_any, list_all}
use Rattle.std.specs.Option.{is_none}
use Rattle.cell_stats_combinations.specs.declared.skip.Skip.{Skip}
use Rattle.cell_stats_combinations.specs.declared.skip.Skip.TheVariants.{Nothing, AnyNull, AllNull}
use Rattle.cell_stats_combinations.specs.Combinations.{Combination}

-- the combination is left out
abbrev pub combination_is_left_out : Skip → Combination → Bool
combination_is_left_out Nothing k = false
combination_is_left_out AnyNull k = list_any is_none k
combination_is_left_out AllNull k = list_all is_none k

-- the combinations that are not left out
abbrev pub kept_cells : Skip → List Combination → List Combination
kept_cells skip cells = filter (λ k. not (combination_is_left_out skip k)) cells
