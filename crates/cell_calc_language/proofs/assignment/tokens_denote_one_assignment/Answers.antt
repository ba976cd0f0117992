use Rattle.cell_calc_language.proofs.Law.{one}
use Rattle.cell_calc_language.proofs.assignment.tokens_denote_one_assignment.Goals as goal

pub returns : goal.returns
returns c = one
