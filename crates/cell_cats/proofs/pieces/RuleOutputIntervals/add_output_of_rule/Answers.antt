use Rattle.std.proofs.Common.{◌∙◌, ap, ℤ, pos, take, get_or, Option, Some, if◌then◌else◌}
use Rattle.std.specs.List.{list_any}
use Rattle.cell_cats.specs.Rule.{is_between_ends}
use Rattle.cell_cats.specs.parts.Pieces.{outputs_after_range_assigned}
use Rattle.cell_cats.specs.declared.rule.Output.{Output}
use Rattle.cell_cats.proofs.PieceLemmas.{outputs-same, range-more}
use Rattle.cell_cats.proofs.pieces.RuleOutputIntervals.add_output_of_rule.Goals as goal

pub loop-ends-preserved : goal.loop-ends-preserved
loop-ends-preserved c = λ outputs all.
    let ranges = c.ranges-ends-items.result.now in
    let so_far : ℤ → Option Output = λ x. if list_any (λ ends. is_between_ends ends x)
    (take c.loop-ends.ends-index ranges) then Some c.args.rule.now.output else outputs x in
    outputs-same _ _ c.assign_output_to_range.new.self
    (λ x. ap (λ (o : Output). outputs_after_range_assigned (get_or ranges c.loop-ends.ends-index
    (pos 0, pos 0)) o so_far x) c.output.ensures ∙ range-more ranges c.loop-ends.ends-index
    (pos 0, pos 0) c.args.rule.now.output outputs x c.loop-ends-test.true)
    (c.in_ok-assign_output_to_range.ensures so_far (c.loop-ends.invariant outputs all))
