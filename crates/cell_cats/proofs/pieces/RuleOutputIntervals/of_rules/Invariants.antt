use Rattle.std.proofs.Common.{take}
use Rattle.std.specs.Option.{option_or}
use Rattle.cell_cats.specs.Rule.{output_of_last_passing_rule, lists, is_star_rule}
use Rattle.cell_cats.specs.parts.Pieces.{IntervalsHaveOutputs}
use Rattle.cell_cats.proofs.pieces.RuleOutputIntervals.of_rules.Given as goal

abbrev pub invariant-loop-rule : goal.invariant-loop-rule
invariant-loop-rule l = IntervalsHaveOutputs (λ x. option_or (output_of_last_passing_rule (lists x)
    (take l.rule-index l.rule-items)) (output_of_last_passing_rule is_star_rule l.rules)) l.pieces
