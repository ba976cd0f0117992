use Rattle.std.proofs.Common.{◌≡◌, ◌+◌, drop}
use Rattle.cell_core.specs.parts.RowForms.{alike}
use Rattle.cell_core_values.specs.SmallCells.{cells_of_bytes}
use Rattle.cell_core.proofs.byte_runs.count_leading_bytes_of_cell.Given as goal

abbrev pub invariant-loop-next : goal.invariant-loop-next
invariant-loop-next l = record {
  count : l.count ≡ l.next-index;
  alike : l.next-index + alike l.cell (cells_of_bytes (drop l.next-index l.bytes))
      ≡ alike l.cell (cells_of_bytes l.bytes);
}
