use Rattle.std.proofs.Common.{rules}
use Rattle.cell_calc.proofs.rows.negate_row_cells.Goals as goal

pub returns : goal.returns
returns c = λ k h. let e = c.each.ensures k h in search rules
