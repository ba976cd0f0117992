use Rattle.rcell_plan.proofs.ShiftLemmas.{null-beyond-the-edge}
use Rattle.rcell_plan.proofs.values_law.null_beyond_the_edge.Goals as goal

pub returns : goal.returns
returns c = null-beyond-the-edge
