use Rattle.std.proofs.Common.{◌≡◌, take}
use Rattle.cell_cats.specs.Rule.{output_of_last_passing_rule, is_star_rule}
use Rattle.cell_cats.proofs.rules.Rules.output_of_last_star_rule.Given as goal

abbrev pub invariant-loop-rule : goal.invariant-loop-rule
invariant-loop-rule l = l.starred ≡ output_of_last_passing_rule is_star_rule (take l.rule-index l.rule-items)
