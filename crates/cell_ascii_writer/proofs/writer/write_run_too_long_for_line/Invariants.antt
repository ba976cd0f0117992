use Rattle.std.proofs.Common.{◌≡◌, ◌-◌, ◌≤◌, ◌++◌, length, take, replicate}
use Rattle.cell_core_devices.specs.Blocks.{IsTextAppendedThroughBlock}
use Rattle.cell_ascii_writer.specs.WrittenRuns.{cell_texts_each_after_a_space}
use Rattle.cell_ascii_writer.proofs.writer.write_run_too_long_for_line.Given as goal

abbrev pub invariant-loop-left : goal.invariant-loop-left
invariant-loop-left g l = record {
  text : IsTextAppendedThroughBlock g.W.Sink.taken g.W.Sink.faults l.fn.out l.fn.block
      (take l.start l.fn.line ++ cell_texts_each_after_a_space l.fields
      (replicate (l.run.1.0 - l.left) l.run.0)) l.out l.block;
  within : l.left ≤ l.run.1.0;
  room : length l.line ≡ 9216;
}

abbrev pub decreases-loop-left : goal.decreases-loop-left
decreases-loop-left g l = l.left
