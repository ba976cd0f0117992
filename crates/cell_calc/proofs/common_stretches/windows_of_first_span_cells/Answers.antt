use Rattle.std.proofs.Common.{length, ap, arith}
use Rattle.cell_calc.proofs.StretchCells.{length-starts}
use Rattle.cell_calc.proofs.common_stretches.windows_of_first_span_cells.Goals as goal

pub of_row-requires : goal.of_row-requires
of_row-requires c =
    let as_many = ap (λ l. length l) c.in_ok-cells.ensures in
    omega (arith, as_many, length-starts c.centre_row.result.now c.args.widths.now, c.requires.few)
