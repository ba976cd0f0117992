-- The position of a need in a list ordered by map index.
use Rattle.std.specs.Prelude.{ℕ, ◌+◌, ◌==◌, nat_le, List, [], ◌∷◌, ◌++◌, slice_get, slice_set, Option, Some, None}
use Rattle.std.specs.Prelude.{if◌then◌else◌}
use Rattle.std.specs.List.{insert}
use Rattle.rcell_plan.specs.declared.needs.MapNeed.{MapNeed}
use Rattle.rcell_plan.specs.Needs.{need_covering_both_needs}

-- the position of the first need whose map index is at least `place`
abbrev pub position_among_needs : ℕ → List MapNeed → ℕ
position_among_needs place [] = 0
position_among_needs place (x ∷ xs) = if nat_le place x.place then 0 else position_among_needs place xs + 1

-- joins the need with the need `x` at this position if both are for the same map; otherwise inserts the need before `x`
abbrev pub insert_or_join_need_at_position : List MapNeed → ℕ → MapNeed → Option MapNeed → List MapNeed
insert_or_join_need_at_position xs at n None = xs ++ n ∷ []
insert_or_join_need_at_position xs at n (Some x) = if x.place == n.place then slice_set xs at
    (need_covering_both_needs x n) else insert xs at n

abbrev pub insert_or_join_need : List MapNeed → ℕ → MapNeed → List MapNeed
insert_or_join_need xs at n = insert_or_join_need_at_position xs at n (slice_get xs at)
