use Rattle.std.proofs.Common.{arith}
use Rattle.cell_clumps.proofs.LabelLemmas.{LabelsLeadToRoots-joined}
use Rattle.cell_clumps.proofs.labels.join_labels.Goals as goal

pub returns-then-first-second-clause-reports : goal.returns-then-first-second-clause-reports
returns-then-first-second-clause-reports c = λ open_of given.
    let once = c.find_root_label-first.ensures.reports open_of given in
    let twice = c.find_root_label-second.ensures.reports open_of once in
    LabelsLeadToRoots-joined _ c.args.one c.args.other c.find_root_label-first.result c.find_root_label-second.result
    _ _ open_of (omega arith) (omega arith) twice
    (c.find_root_label-first.ensures.open open_of given) (c.find_root_label-second.ensures.open open_of once)
    (omega arith) (omega arith)

pub returns-else-first-second-clause-reports : goal.returns-else-first-second-clause-reports
returns-else-first-second-clause-reports c = λ open_of given.
    let once = c.find_root_label-first.ensures.reports open_of given in
    let twice = c.find_root_label-second.ensures.reports open_of once in
    LabelsLeadToRoots-joined _ c.args.one c.args.other c.find_root_label-first.result c.find_root_label-second.result
    _ _ open_of (omega arith) (omega arith) twice
    (c.find_root_label-first.ensures.open open_of given) (c.find_root_label-second.ensures.open open_of once)
    (omega arith) (omega arith)
