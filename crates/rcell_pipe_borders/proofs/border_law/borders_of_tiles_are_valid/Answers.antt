use Rattle.rcell_pipe_borders.proofs.BorderLemmas.{borders-pass}
use Rattle.rcell_pipe_borders.proofs.border_law.borders_of_tiles_are_valid.Goals as goal

pub returns : goal.returns
returns c = borders-pass
