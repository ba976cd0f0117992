use Rattle.cell_join_numbers.proofs.SearchLemmas.{place-found, place-missing}
use Rattle.cell_join_numbers.proofs.sparse.place_in_paired_labels.Goals as goal

pub returns-in-Ok : goal.returns-in-Ok
returns-in-Ok c = place-found c.args.paired.now c.args.label c.requires c.in-Ok.place c.in-Ok.ensures.position

pub returns-in-Err : goal.returns-in-Err
returns-in-Err c = place-missing c.args.paired.now c.args.label c.requires c.in-Err.place c.in-Err.ensures.position
