use Rattle.cell_calc_grammar.specs.TokensRead.{Expression}
use Rattle.cell_calc_language.specs.parts.Waiting.{ActionLeadsToOutcomeOfState, tokens_left_by_action}
use Rattle.cell_calc_language.specs.parts.Waiting.{reader_work_bound}
use Rattle.cell_calc_language.proofs.expression_reader.read_expression.Given as goal

abbrev pub invariant-turns : goal.invariant-turns
invariant-turns l = ActionLeadsToOutcomeOfState (Expression l.tokens) l.reader l.turn

abbrev pub decreases-turns : goal.decreases-turns
decreases-turns l = reader_work_bound (tokens_left_by_action l.turn) l.reader
