use Rattle.std.proofs.Common.{take, flat_map}
use Rattle.cell_core_devices.specs.Blocks.{IsTextAppendedThroughBlock}
use Rattle.rcell_plan_response.specs.RuleLabels.{label_bytes_of_rule}
use Rattle.rcell_plan_response.proofs.rule_labels.push_label_of_each_rule.Given as goal

abbrev pub invariant-loop-rule : goal.invariant-loop-rule
invariant-loop-rule g l = IsTextAppendedThroughBlock g.W.Sink.taken g.W.Sink.faults l.fn.out l.fn.block
    (flat_map label_bytes_of_rule (take l.rule-index l.rules)) l.out l.block
