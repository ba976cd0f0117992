use Rattle.cell_calc_grammar.proofs.Complete.{tokens_denote_one_expression}
use Rattle.cell_calc_grammar.proofs.law.tokens_denote_one_expression.Goals as goal

pub returns : goal.returns
returns c = tokens_denote_one_expression
