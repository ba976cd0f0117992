use Rattle.std.proofs.Common.{◌≡◌, ◌+◌, ◌*◌, ◌≤◌, ◌++◌, length, take}
use Rattle.cell_ascii_writer.specs.Fields.{lowest_bytes_of_number}
use Rattle.cell_ascii_writer.specs.WrittenRuns.{repeated_text}
use Rattle.cell_ascii_writer.proofs.cells_in_line.put_field_repeatedly.Given as goal

abbrev pub invariant-loop : goal.invariant-loop
invariant-loop l = record {
  within : l.end ≤ l.fn.start + 8 * l.counter;
  room : length l.line ≡ length l.fn.line;
  text : take l.end l.line ≡ take l.fn.start l.fn.line ++ repeated_text l.counter
      (lowest_bytes_of_number l.field.bytes l.field.size);
}
