use Rattle.cell_calc_language.proofs.Judged.{each_judged}
use Rattle.cell_calc_language.proofs.language_law.tokens_are_assignment_or_fault.Goals as goal

pub returns : goal.returns
returns c = each_judged
