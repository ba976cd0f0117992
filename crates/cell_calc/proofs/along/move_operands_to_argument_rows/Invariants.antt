use Rattle.std.proofs.Common.{◌≡◌, ◌<◌, ◌-◌, ℕ, length, map, take, drop}
use Rattle.std.specs.Prelude.{All, reverse}
use Rattle.cell_calc.specs.parts.Operands.{operand_cells_in_strip_column}
use Rattle.cell_calc.specs.RowValues.{cells_at_column}
use Rattle.cell_calc.proofs.along.move_operands_to_argument_rows.Given as goal

abbrev pub invariant-operands : goal.invariant-operands
invariant-operands l =
    record {
      rest : l.operands.items ≡ take (length l.fn.operands.items - l.counter) l.fn.operands.items;
      width : All (λ cells. length cells.items ≡ l.strip.width) l.spare.arguments.items;
      each : (c : ℕ) → c < l.strip.width → cells_at_column c (map (λ cells. cells.items) l.spare.arguments.items)
          ≡ reverse (operand_cells_in_strip_column l.windows l.strip c (drop (length l.fn.operands.items - l.counter) l.fn.operands.items));
    }
