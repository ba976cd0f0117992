use Rattle.std.proofs.Common.{◌∙◌, ap, Some}
use Rattle.cell_cats.proofs.RuleLemmas.{listed, left_out}
use Rattle.cell_cats.proofs.rules.Rules.output_for_category.Goals.{then-lists, else-lists}
use Rattle.cell_cats.proofs.rules.Rules.output_for_category.Goals as goal

pub loop-rule-preserved : goal.loop-rule-preserved
loop-rule-preserved c =
    elim c.if-lists.branch [
      | then-lists w ↦ w.listing-is ∙ ap Some w.output.ensures ∙ listed _ _ _ _ c.rule-item.result c.loop-rule-test.true c.rule-item.is w.if-lists.ensures
      | else-lists w ↦ w.listing-is ∙ left_out _ _ _ _ c.rule-item.result c.loop-rule-test.true c.rule-item.is w.if-lists.ensures c.loop-rule.invariant
    ]
