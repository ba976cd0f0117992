use Rattle.std.proofs.Common.{◌≡◌, ◌*◌, ◌≤◌, length, take}
use Rattle.cell_ascii_writer.specs.WrittenRuns.{cell_texts_each_after_a_space}
use Rattle.cell_ascii_writer.proofs.cells_in_line.put_cells_into_line.Given as goal

abbrev pub invariant-loop-cell : goal.invariant-loop-cell
invariant-loop-cell l = record {
  within : l.end ≤ 72 * l.cell-index;
  room : length l.line ≡ length l.fn.line;
  text : take l.end l.line ≡ cell_texts_each_after_a_space l.fields (take l.cell-index l.cells);
}
