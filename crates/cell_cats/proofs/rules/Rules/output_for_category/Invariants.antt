use Rattle.std.proofs.Common.{◌≡◌, take}
use Rattle.cell_cats.specs.Rule.{output_of_last_passing_rule, lists}
use Rattle.cell_cats.proofs.rules.Rules.output_for_category.Given as goal

abbrev pub invariant-loop-rule : goal.invariant-loop-rule
invariant-loop-rule l = l.listing ≡ output_of_last_passing_rule (lists l.x) (take l.rule-index l.rule-items)
