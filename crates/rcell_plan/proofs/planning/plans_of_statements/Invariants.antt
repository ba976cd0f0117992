use Rattle.std.proofs.Common.{◌≡◌, ◌++◌, drop}
use Rattle.rcell_plan.specs.Plans.{needs_of_given_maps, plans_of_statements}
use Rattle.rcell_plan.proofs.planning.plans_of_statements.Given as goal

abbrev pub invariant-loop-statement : goal.invariant-loop-statement
invariant-loop-statement l = l.plans.items ++ plans_of_statements l.known.items
    (drop l.statement-index l.statements) ≡ plans_of_statements (needs_of_given_maps l.count) l.statements
