use Rattle.rcell_pipe_join.proofs.RunSumLemmas.{runs-add-up}
use Rattle.rcell_pipe_join.proofs.law.tables_of_runs_add_up.Goals as goal

pub returns : goal.returns
returns c = runs-add-up c.tables_of_tiles_add_up.ensures
