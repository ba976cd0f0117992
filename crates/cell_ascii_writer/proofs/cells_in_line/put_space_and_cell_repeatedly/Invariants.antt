use Rattle.std.proofs.Common.{◌≡◌, ◌+◌, ◌*◌, ◌≤◌, ◌∷◌, ◌++◌, length, take}
use Rattle.cell_core.specs.Text.{cell_text}
use Rattle.cell_ascii_writer.specs.WrittenRuns.{repeated_text}
use Rattle.cell_ascii_writer.proofs.cells_in_line.put_space_and_cell_repeatedly.Given as goal

abbrev pub invariant-loop : goal.invariant-loop
invariant-loop l = record {
  within : l.end ≤ l.fn.start + 72 * l.counter;
  room : length l.line ≡ length l.fn.line;
  text : take l.end l.line ≡ take l.fn.start l.fn.line ++ repeated_text l.counter (32 ∷ cell_text l.fields l.cell);
}
