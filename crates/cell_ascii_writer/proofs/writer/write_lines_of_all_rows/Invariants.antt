use Rattle.std.proofs.Common.{◌≡◌, take, flat_map, length}
use Rattle.cell_core_devices.specs.Blocks.{IsTextAppendedThroughBlock}
use Rattle.cell_ascii_meaning.specs.Writing.{row_text}
use Rattle.cell_ascii_writer.proofs.writer.write_lines_of_all_rows.Given as goal

abbrev pub invariant-loop-row : goal.invariant-loop-row
invariant-loop-row g l = record {
  text : IsTextAppendedThroughBlock g.W.Sink.taken g.W.Sink.faults l.fn.out l.fn.block
      (flat_map (row_text l.null_text) (take l.row l.map.rows)) l.out l.block;
  room : length l.line ≡ 9216;
}
