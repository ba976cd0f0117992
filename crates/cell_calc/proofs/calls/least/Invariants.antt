use Rattle.std.proofs.Common.{◌≡◌, ◌<◌, ℕ, length, take, map}
use Rattle.std.specs.Prelude.{fold}
use Rattle.cell_calc.specs.RowValues.{at, cells_at_column}
use Rattle.cell_calc_language.specs.CellOperators.{lesser}
use Rattle.cell_calc.proofs.calls.least.Given as goal

abbrev pub invariant-loop-other : goal.invariant-loop-other
invariant-loop-other l =
    record {
      done : (c : ℕ) → c < length l.row → at l.row c ≡ fold lesser (at l.initial.row c) (take l.other-index (cells_at_column c (map (λ cells. cells.items) l.others)));
    }
