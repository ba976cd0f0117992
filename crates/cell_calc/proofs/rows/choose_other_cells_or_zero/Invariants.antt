use Rattle.std.proofs.Common.{◌≡◌, ◌<◌, ◌≤◌, ℕ}
use Rattle.cell_calc.specs.RowValues.{at}
use Rattle.cell_calc_language.specs.CellOperators.{cell_chosen_by_condition}
use Rattle.cell_calc.proofs.rows.choose_other_cells_or_zero.Given as goal

abbrev pub invariant-loop-i : goal.invariant-loop-i
invariant-loop-i l =
    record {
      done : (c : ℕ) → c < l.i → at l.row c ≡ cell_chosen_by_condition (at l.initial.row c) (at l.other c) l.no;
      rest : (c : ℕ) → l.i ≤ c → at l.row c ≡ at l.initial.row c;
    }
