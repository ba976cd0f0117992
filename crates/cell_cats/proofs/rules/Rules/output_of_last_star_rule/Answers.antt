use Rattle.std.proofs.Common.{◌∙◌, ap, Some}
use Rattle.cell_cats.proofs.RuleLemmas.{listed, left_out}
use Rattle.cell_cats.proofs.rules.Rules.output_of_last_star_rule.Goals.{then-is_star, else-is_star}
use Rattle.cell_cats.proofs.rules.Rules.output_of_last_star_rule.Goals as goal

pub loop-rule-preserved : goal.loop-rule-preserved
loop-rule-preserved c =
    elim c.if-is_star.branch [
      | then-is_star w ↦ w.starred-is ∙ ap Some w.output.ensures ∙ listed _ _ _ _ c.rule-item.result c.loop-rule-test.true c.rule-item.is w.if-is_star.ensures
      | else-is_star w ↦ w.starred-is ∙ left_out _ _ _ _ c.rule-item.result c.loop-rule-test.true c.rule-item.is w.if-is_star.ensures c.loop-rule.invariant
    ]
