use Rattle.rcell_plan.proofs.FollowLemmas.{counts-follow}
use Rattle.rcell_plan.proofs.values_law.value_count_sums_combinations.Goals as goal

pub returns : goal.returns
returns c = counts-follow
