use Rattle.cell_cats.proofs.ItemLawLemmas.{items-are-read}
use Rattle.cell_cats.proofs.RuleLawLemmas.{rules-are-read}
use Rattle.cell_cats.proofs.law.lines_add_rules_they_spell.Goals as goal

pub returns-clause-items : goal.returns-clause-items
returns-clause-items c = items-are-read

pub returns-clause-rules : goal.returns-clause-rules
returns-clause-rules c = rules-are-read
