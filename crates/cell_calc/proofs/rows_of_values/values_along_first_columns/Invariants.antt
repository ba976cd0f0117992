use Rattle.std.proofs.Common.{◌≡◌, ◌≤◌, ◌<◌, ◌-◌, ℕ, [], ◌∷◌, length}
use Rattle.cell_calc_language.specs.Applied.{grid_position}
use Rattle.cell_calc.specs.parts.Operands.{step_result_from_windows}
use Rattle.cell_calc_grammar.specs.Postfix.{operands_after_steps}
use Rattle.cell_calc.specs.RowValues.{at}
use Rattle.cell_calc.proofs.rows_of_values.values_along_first_columns.Given as goal

abbrev pub invariant-strips : goal.invariant-strips
invariant-strips l =
    record {
      within : l.from ≤ l.cols;
      width : length l.cells.items ≡ l.from;
      done : (c : ℕ) → c < l.from → at l.cells.items c ∷ [] ≡ operands_after_steps (step_result_from_windows l.windows (grid_position l.region l.row c)) l.steps [];
    }

abbrev pub decreases-strips : goal.decreases-strips
decreases-strips l = l.cols - l.from
