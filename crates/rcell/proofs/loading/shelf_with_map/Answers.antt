use Rattle.rcell.proofs.LoadingLemmas.{added-refused, added-same, refused-whose}
use Rattle.rcell.proofs.loading.shelf_with_map.Goals as goal

pub returns-in-Ok-clause-answer : goal.returns-in-Ok-clause-answer
returns-in-Ok-clause-answer c =
    let free = c.in-Ok.ensures.accepted in
    rw c.in-Ok.ensures.ok (added-same c.args.grid c.args.shelf c.args.name c.args.map free.0 free.1)

pub returns-in-Err-clause-answer : goal.returns-in-Err-clause-answer
returns-in-Err-clause-answer c =
    rw c.run_fault_of_shelf_fault.ensures
    (added-refused c.args.grid c.args.shelf c.args.name c.args.map c.in-Err.refused.fault c.in-Err.ensures.reason)

pub returns-in-Err-clause-whose : goal.returns-in-Err-clause-whose
returns-in-Err-clause-whose c = rw c.run_fault_of_shelf_fault.ensures (refused-whose c.args.grid c.in-Err.refused.fault)
