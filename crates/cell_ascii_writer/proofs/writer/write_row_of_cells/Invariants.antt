use Rattle.std.proofs.Common.{◌≡◌, length}
use Rattle.cell_ascii_writer.specs.Fields.{HasAppendedTextExceptPending}
use Rattle.cell_ascii_writer.specs.WrittenRuns.{cell_texts_each_after_a_space}
use Rattle.cell_ascii_writer.proofs.writer.write_row_of_cells.Given as goal

abbrev pub invariant-loop-rest : goal.invariant-loop-rest
invariant-loop-rest g l = record {
  text : HasAppendedTextExceptPending g.W.Sink.taken g.W.Sink.faults l.initial.out l.initial.block
      (cell_texts_each_after_a_space l.fields l.initial.rest)
      (cell_texts_each_after_a_space l.fields l.rest) l.out l.block;
  room : length l.line ≡ 9216;
}

abbrev pub decreases-loop-rest : goal.decreases-loop-rest
decreases-loop-rest g l = length l.rest
