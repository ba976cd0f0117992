use Rattle.std.proofs.Common.{ap, ◌∙◌}
use Rattle.std.specs.FinMap.{get}
use Rattle.cell_core.specs.Grid.{Grid}
use Rattle.cell_cats.proofs.LabelLemmas.{get-labels_of}
use Rattle.cell_cats.proofs.reclassing.reclass.Goals as goal

pub returns-clause-labels : goal.returns-clause-labels
returns-clause-labels c = λ k. ap (λ (m : Grid). get m.labels k) c.in_ok-add_labels_of_rules.ensures ∙ get-labels_of c.args.rules.now k
