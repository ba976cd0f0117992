use Rattle.std.proofs.Common.{◌≡◌, ◌≤◌, ◌-◌, length, take}
use Rattle.std.specs.Prelude.{All}
use Rattle.cell_calc.specs.CommonStretches.{centre_row, total_span_width, spread_values_over_spans, span_start_cells}
use Rattle.cell_calc.proofs.common_stretches.span_widths_if_few.Given as goal

abbrev pub invariant-stretches : goal.invariant-stretches
invariant-stretches l =
    record {
      within : l.from ≤ l.cols;
      all : total_span_width l.widths.items ≡ l.from;
      few : length l.widths.items ≤ l.from;
      go : All
          (λ w. spread_values_over_spans (span_start_cells (centre_row w) l.widths.items) l.widths.items
          ≡ take l.from (centre_row w))
          l.windows;
    }

abbrev pub decreases-stretches : goal.decreases-stretches
decreases-stretches l = l.cols - l.from
