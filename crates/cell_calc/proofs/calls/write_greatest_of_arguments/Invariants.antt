use Rattle.std.proofs.Common.{◌≡◌, ◌<◌, ℕ, length, take, map}
use Rattle.std.specs.Prelude.{fold}
use Rattle.cell_calc.specs.RowValues.{at, cells_at_column}
use Rattle.cell_calc_language.specs.CellOperators.{greater_than_as_cell}
use Rattle.cell_calc.proofs.calls.write_greatest_of_arguments.Given as goal

abbrev pub invariant-loop-other : goal.invariant-loop-other
invariant-loop-other l =
    record {
      done : (c : ℕ) → c < length l.row → at l.row c ≡ fold greater_than_as_cell (at l.initial.row c) (take l.other-index (cells_at_column c (map (λ cells. cells.items) l.others)));
    }
