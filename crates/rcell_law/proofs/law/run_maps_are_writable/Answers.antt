use Rattle.rcell_law.proofs.RunMapLemmas.{run_maps_are_writable}
use Rattle.rcell_law.proofs.law.run_maps_are_writable.Goals as goal

pub returns : goal.returns
returns c = run_maps_are_writable
