use Rattle.std.proofs.Common.{◌≡◌, ◌*◌, ◌≤◌, length, take}
use Rattle.cell_core_values.specs.SmallCells.{cells_of_bytes}
use Rattle.cell_ascii_writer.specs.WrittenRuns.{cell_texts_each_after_a_space}
use Rattle.cell_ascii_writer.proofs.cells_in_line.put_cells_of_bytes_fast.Given as goal

abbrev pub invariant-loop-byte : goal.invariant-loop-byte
invariant-loop-byte l = record {
  within : l.end ≤ 72 * l.byte-index;
  room : length l.line ≡ length l.fn.line;
  text : take l.end l.line ≡ cell_texts_each_after_a_space l.fields (cells_of_bytes (take l.byte-index l.bytes));
}
