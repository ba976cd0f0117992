use Rattle.std.proofs.Common.{take, flat_map}
use Rattle.cell_core_devices.specs.Blocks.{IsTextAppendedThroughBlock}
use Rattle.cell_stats.specs.TableText.{entry_line}
use Rattle.cell_stats.proofs.printing.write_table.Given as goal

abbrev pub invariant-loop-combo : goal.invariant-loop-combo
invariant-loop-combo g l = IsTextAppendedThroughBlock g.W.Sink.taken g.W.Sink.faults l.fn.out l.fn.block (flat_map (entry_line l.format l.shelf.maps l.picks) (take l.combo-index l.entries)) l.out l.block
