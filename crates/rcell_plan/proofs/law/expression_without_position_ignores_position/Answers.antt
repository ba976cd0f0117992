use Rattle.rcell_plan.proofs.ReachLemmas.{expression_without_position_ignores_position}
use Rattle.rcell_plan.proofs.law.expression_without_position_ignores_position.Goals as goal

pub returns : goal.returns
returns c = expression_without_position_ignores_position
