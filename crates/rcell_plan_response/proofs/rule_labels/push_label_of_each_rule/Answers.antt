use Rattle.std.proofs.Common.{take_all}
use Rattle.rcell_plan_response.specs.RuleLabels.{label_bytes_of_rule}
use Rattle.rcell_pipe_frames.proofs.AppendLemmas.{appends_more}
use Rattle.rcell_plan_response.proofs.rule_labels.push_label_of_each_rule.Goals as goal

pub loop-rule-preserved : goal.loop-rule-preserved
loop-rule-preserved g c =
    appends_more label_bytes_of_rule c.args.rules.now c.loop-rule.rule-index c.rule-item.result c.loop-rule-test.true
    c.loop-rule.invariant (rw c.rule-item.is at c.push_label_of_rule.ensures)

pub returns : goal.returns
returns g c = rw (take_all c.loop-rule.rule-index c.args.rules.now c.loop-rule-test.false) at c.loop-rule.invariant
