use Rattle.rcell_plan.proofs.ShiftLemmas.{shifts-add-up}
use Rattle.rcell_plan.proofs.values_law.shifts_add_up.Goals as goal

pub returns : goal.returns
returns c = shifts-add-up
