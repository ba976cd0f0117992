use Rattle.std.proofs.Common.{◌≡◌, ◌+◌, drop}
use Rattle.cell_core.specs.parts.RowForms.{alike}
use Rattle.cell_core.proofs.runs.count_leading_equal_cells.Given as goal

abbrev pub invariant-loop-next : goal.invariant-loop-next
invariant-loop-next l = record {
  count : l.count ≡ l.next-index;
  alike : l.next-index + alike l.cell (drop l.next-index l.cells) ≡ alike l.cell l.cells;
}
