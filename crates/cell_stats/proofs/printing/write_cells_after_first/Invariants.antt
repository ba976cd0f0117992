use Rattle.std.proofs.Common.{take, flat_map}
use Rattle.std.specs.List.{zip}
use Rattle.cell_core_devices.specs.Blocks.{IsTextAppendedThroughBlock}
use Rattle.cell_stats.specs.parts.Preceded.{separator_cell_and_label_text}
use Rattle.cell_stats.proofs.printing.write_cells_after_first.Given as goal

abbrev pub invariant-loop-i : goal.invariant-loop-i
invariant-loop-i g l = IsTextAppendedThroughBlock g.W.Sink.taken g.W.Sink.faults l.fn.out l.fn.block
    (flat_map (separator_cell_and_label_text l.format l.shelf.maps) (take l.i (zip l.picks l.cells))) l.out l.block
