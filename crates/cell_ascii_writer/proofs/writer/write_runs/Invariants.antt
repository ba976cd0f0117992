use Rattle.std.proofs.Common.{◌≡◌, ◌≤◌, ◌++◌, length, take}
use Rattle.cell_core.specs.Runs.{cells_of_runs}
use Rattle.cell_ascii_writer.specs.Fields.{HasAppendedTextExceptPending}
use Rattle.cell_ascii_writer.specs.WrittenRuns.{cell_texts_each_after_a_space}
use Rattle.cell_ascii_writer.proofs.writer.write_runs.Given as goal

abbrev pub invariant-loop-cell : goal.invariant-loop-cell
invariant-loop-cell g l = record {
  text : HasAppendedTextExceptPending g.W.Sink.taken g.W.Sink.faults l.fn.out l.fn.block (take l.start l.fn.line ++ cell_texts_each_after_a_space l.fields (cells_of_runs l.yielded)) (take l.end l.line) l.out l.block;
  whole : l.yielded ++ l.cell-iterator ≡ l.fn.runs;
  within : l.end ≤ 9216;
  room : length l.line ≡ 9216;
}
