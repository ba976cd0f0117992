use Rattle.rcell.proofs.LoadingLemmas.{first_placed}
use Rattle.rcell.proofs.loading.extended_or_new_shelf.Goals as goal

pub returns-in-None-clause-answer : goal.returns-in-None-clause-answer
returns-in-None-clause-answer c =
    rw c.in-None.is
    (first_placed c.shelf_with_map-in-None.result c.args.grid c.region.result c.new-shelf.result c.args.name c.args.map
    c.new-shelf.ensures c.region.ensures.value c.shelf_with_map-in-None.ensures.answer)

pub returns-in-Some-clause-answer : goal.returns-in-Some-clause-answer
returns-in-Some-clause-answer c = rw c.in-Some.is c.shelf_with_map.ensures.answer
