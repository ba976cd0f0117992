use Rattle.std.proofs.Common.{ℤ, take, Option, Some, if◌then◌else◌}
use Rattle.std.specs.List.{list_any}
use Rattle.cell_cats.specs.Rule.{is_between_ends}
use Rattle.cell_cats.specs.parts.Pieces.{IntervalsHaveOutputs}
use Rattle.cell_cats.specs.declared.rule.Output.{Output}
use Rattle.cell_cats.proofs.pieces.RuleOutputIntervals.add_output_of_rule.Given as goal

abbrev pub invariant-loop-ends : goal.invariant-loop-ends
invariant-loop-ends l = (outputs : ℤ → Option Output) → IntervalsHaveOutputs outputs l.fn.self
    → IntervalsHaveOutputs (λ x. if list_any (λ ends. is_between_ends ends x)
    (take l.ends-index l.ends-items) then Some l.rule.output else outputs x) l.self
