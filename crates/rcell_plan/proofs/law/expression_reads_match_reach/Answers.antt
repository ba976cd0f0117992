use Rattle.rcell_plan.proofs.ReachLemmas.{expression_reads_match_reach}
use Rattle.rcell_plan.proofs.law.expression_reads_match_reach.Goals as goal

pub returns : goal.returns
returns c = expression_reads_match_reach
