use Rattle.std.proofs.Common.{replicate, flat_map}
use Rattle.cell_core_devices.specs.Blocks.{IsTextAppendedThroughBlock}
use Rattle.cell_stats.specs.TableText.{cell_line}
use Rattle.cell_stats.proofs.printed_cells.write_lines_of_equal_cells.Given as goal

abbrev pub invariant-loop-line : goal.invariant-loop-line
invariant-loop-line g l = IsTextAppendedThroughBlock g.W.Sink.taken g.W.Sink.faults l.fn.out l.fn.block
    (flat_map (cell_line l.format l.selection.shelf.now.maps l.selection.picks.now)
    (replicate l.line l.cells)) l.out l.block
