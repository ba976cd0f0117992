use Rattle.std.proofs.Common.{◌≡◌, take}
use Rattle.cell_calc.specs.CommonStretches.{total_span_width, span_start_cells}
use Rattle.cell_calc.proofs.common_stretches.first_cells_of_spans.Given as goal

abbrev pub invariant-loop-width : goal.invariant-loop-width
invariant-loop-width l =
    record {
      from : l.from ≡ total_span_width (take l.width-index l.widths);
      cells : l.cells.items ≡ span_start_cells l.row (take l.width-index l.widths);
    }
