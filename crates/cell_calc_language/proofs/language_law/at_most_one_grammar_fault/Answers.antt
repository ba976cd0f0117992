use Rattle.cell_calc_language.proofs.Judged.{one_fault}
use Rattle.cell_calc_language.proofs.language_law.at_most_one_grammar_fault.Goals as goal

pub returns : goal.returns
returns c = one_fault
