use Rattle.std.proofs.Common.{◌≡◌, take}
use Rattle.cell_cats.specs.Reclass.{labels_of_rules}
use Rattle.cell_cats.proofs.reclassing.add_labels_of_rules.Given as goal

abbrev pub invariant-loop-rule : goal.invariant-loop-rule
invariant-loop-rule l = l.made ≡ record l.fn.made { labels = labels_of_rules (take l.rule-index l.rule-items) }
