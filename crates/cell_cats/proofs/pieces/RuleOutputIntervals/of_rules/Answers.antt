use Rattle.cell_cats.proofs.PieceLemmas.{outputs-same, rule-more}
use Rattle.cell_cats.proofs.pieces.RuleOutputIntervals.of_rules.Goals as goal

pub loop-rule-preserved : goal.loop-rule-preserved
loop-rule-preserved c =
    outputs-same _ _ c.add_output_of_rule.new.self (λ x. rule-more c.as_slice-rule-items.result.now c.loop-rule.rule-index c.rule-item.result c.rule-item.result _ x c.loop-rule-test.true c.rule-item.is)
    (c.in_ok-add_output_of_rule.ensures _ c.loop-rule.invariant)
