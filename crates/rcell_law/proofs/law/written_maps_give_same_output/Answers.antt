use Rattle.rcell_law.proofs.WrittenLemmas.{written_maps_give_same_output}
use Rattle.rcell_law.proofs.law.written_maps_give_same_output.Goals as goal

pub returns : goal.returns
returns c = written_maps_give_same_output
