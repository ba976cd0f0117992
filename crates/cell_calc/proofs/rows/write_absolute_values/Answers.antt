use Rattle.std.proofs.Common.{rules}
use Rattle.cell_calc.proofs.rows.write_absolute_values.Goals as goal

pub returns : goal.returns
returns c = λ k h. let e = c.each.ensures k h in search rules
