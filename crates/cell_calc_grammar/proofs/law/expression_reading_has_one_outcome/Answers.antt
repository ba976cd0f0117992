use Rattle.cell_calc_grammar.proofs.Complete.{one_outcome}
use Rattle.cell_calc_grammar.proofs.law.expression_reading_has_one_outcome.Goals as goal

pub returns : goal.returns
returns c = λ s o p. one_outcome
