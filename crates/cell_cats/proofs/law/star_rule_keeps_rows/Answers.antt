use Rattle.cell_cats.proofs.ReclassLemmas.{star-keeps}
use Rattle.cell_cats.proofs.law.star_rule_keeps_rows.Goals as goal

pub returns : goal.returns
returns c = star-keeps
