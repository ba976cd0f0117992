use Rattle.std.proofs.Common.{◌≡◌, ◌<◌, ℕ, length, take, map, None}
use Rattle.std.specs.Prelude.{fold}
use Rattle.cell_calc.specs.RowValues.{at, cells_at_column}
use Rattle.cell_calc_language.specs.Joins.{known_lesser}
use Rattle.cell_calc.proofs.calls.write_least_non_null_arguments.Given as goal

abbrev pub invariant-loop-other : goal.invariant-loop-other
invariant-loop-other l =
    record {
      done : (c : ℕ) → c < length l.row → at l.row c ≡ fold known_lesser None (take l.other-index (cells_at_column c (map (λ cells. cells.items) l.arguments)));
    }
