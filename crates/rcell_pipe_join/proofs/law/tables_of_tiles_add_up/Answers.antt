use Rattle.rcell_pipe_join.proofs.TableSumLemmas.{tables-add-up}
use Rattle.rcell_pipe_join.proofs.law.tables_of_tiles_add_up.Goals as goal

pub returns : goal.returns
returns c = tables-add-up
