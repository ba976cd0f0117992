use Rattle.std.proofs.Common.{◌≡◌, ℕ, ◌<◌, List, length, get_or, None}
use Rattle.cell_core_values.specs.SmallCells.{cell_of_stored_byte}
use Rattle.cell_cats.specs.Rule.{RuleValue, new_category}
use Rattle.cell_cats.specs.parts.Pieces.{IntervalsAgreeWithRules}
use Rattle.cell_cats.proofs.byte_table.byte_reclass_table.Given as goal

abbrev pub invariant-loop-byte : goal.invariant-loop-byte
invariant-loop-byte l = record {
  size : length l.cells.items ≡ 256;
  right : (rules : List RuleValue) → IntervalsAgreeWithRules rules l.pieces → (b : ℕ) → b < l.byte → get_or l.cells.items b None ≡ new_category rules (cell_of_stored_byte b);
}
