use Rattle.std.proofs.Common.{◌≡◌, ◌<◌, ℕ, [], length, drop}
use Rattle.std.specs.Prelude.{All}
use Rattle.cell_calc.specs.parts.Operands.{CanReadOperand, operand_cells_in_strip_column, step_result_from_windows}
use Rattle.cell_calc.specs.parts.Operands.{position_of_strip_column}
use Rattle.cell_calc_grammar.specs.Postfix.{operands_after_steps, StepsHaveEnoughOperands}
use Rattle.cell_calc.proofs.along.values_along_strip.Given as goal

abbrev pub invariant-loop-step : goal.invariant-loop-step
invariant-loop-step l =
    record {
      ready : All (CanReadOperand l.windows l.strip) l.operands.items;
      enough : StepsHaveEnoughOperands (drop l.step-index l.steps) (length l.operands.items);
      each : (c : ℕ) → c < l.strip.width → operands_after_steps (step_result_from_windows l.windows
          (position_of_strip_column l.strip c)) (drop l.step-index l.steps)
          (operand_cells_in_strip_column l.windows l.strip c l.operands.items)
          ≡ operands_after_steps (step_result_from_windows l.windows (position_of_strip_column l.strip c)) l.steps [];
    }
