use Rattle.std.proofs.Common.{rules}
use Rattle.cell_calc.proofs.rows.replace_by_larger_cells.Goals as goal

pub returns : goal.returns
returns c = λ k h. let e = c.combine_rows.ensures k h in search rules
