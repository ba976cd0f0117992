use Rattle.rcell_plan.proofs.ReachLemmas.{plans_list_maps_in_order}
use Rattle.rcell_plan.proofs.law.plans_list_maps_in_order.Goals as goal

pub returns : goal.returns
returns c = plans_list_maps_in_order
