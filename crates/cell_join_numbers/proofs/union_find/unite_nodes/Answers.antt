use Rattle.std.proofs.Common.{arith}
use Rattle.cell_join_numbers.proofs.UnionLemmas.{AreRootsOfLabels-joined}
use Rattle.cell_join_numbers.proofs.union_find.unite_nodes.Goals as goal

pub returns-then-first-second-clause-leads : goal.returns-then-first-second-clause-leads
returns-then-first-second-clause-leads c = λ open_of given.
    let once = c.root_of_node-first.ensures.leads open_of given in
    let twice = c.root_of_node-second.ensures.leads open_of once in
    AreRootsOfLabels-joined _ c.args.one c.args.other c.root_of_node-first.result c.root_of_node-second.result _ _
    open_of (omega arith) (omega arith) twice
    (c.root_of_node-first.ensures.root open_of given) (c.root_of_node-second.ensures.root open_of once) (omega arith)
    (omega arith)

pub returns-else-first-second-clause-leads : goal.returns-else-first-second-clause-leads
returns-else-first-second-clause-leads c = λ open_of given.
    let once = c.root_of_node-first.ensures.leads open_of given in
    let twice = c.root_of_node-second.ensures.leads open_of once in
    AreRootsOfLabels-joined _ c.args.one c.args.other c.root_of_node-first.result c.root_of_node-second.result _ _
    open_of (omega arith) (omega arith) twice
    (c.root_of_node-first.ensures.root open_of given) (c.root_of_node-second.ensures.root open_of once) (omega arith)
    (omega arith)
