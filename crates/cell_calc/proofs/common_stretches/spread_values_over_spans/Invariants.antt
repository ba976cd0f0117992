use Rattle.std.proofs.Common.{◌≡◌, ◌+◌, ◌++◌, length, take, drop}
use Rattle.cell_calc.specs.CommonStretches.{spread_values_over_spans, total_span_width}
use Rattle.cell_calc.proofs.common_stretches.spread_values_over_spans.Given as goal

abbrev pub invariant-loop-i : goal.invariant-loop-i
invariant-loop-i l =
    record {
      whole : take l.at l.cells ++ spread_values_over_spans (drop l.i l.values) (drop l.i l.widths)
          ≡ spread_values_over_spans l.values l.widths;
      within : l.at + total_span_width (drop l.i l.widths) ≡ length l.cells;
    }
