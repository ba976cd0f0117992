use Rattle.rcell_plan.proofs.LawLemmas.{map_needs_are_enough}
use Rattle.rcell_plan.proofs.law.map_needs_are_enough.Goals as goal

pub returns : goal.returns
returns c = map_needs_are_enough
