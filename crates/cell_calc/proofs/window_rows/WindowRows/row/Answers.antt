use Rattle.std.proofs.Common.{sym, ap, ◌∙◌}
use Rattle.std.specs.Option.{option_copied}
use Rattle.cell_calc.proofs.Rings.{none_there}
use Rattle.cell_calc.proofs.window_rows.WindowRows.row.Goals as goal

pub returns-in-None : goal.returns-in-None
returns-in-None c = rw (← c.self.view_is) (none_there (λ row. row.items) c.self.inside.rows.items c.args.i (sym c.get.ensures ∙ ap option_copied c.in-None.is))
