use Rattle.std.proofs.Common.{◌≤◌, arith, get_or}
use Rattle.cell_clumps.proofs.NumberLemmas.{AreLabelsNumberedBeforePlace-open, AreLabelsNumberedBeforePlace-closed}
use Rattle.cell_clumps.proofs.clump_numbers.replace_label_by_clump_number.Goals as goal

pub returns-then-label-place-clause-numbered : goal.returns-then-label-place-clause-numbered
returns-then-label-place-clause-numbered c = λ j m labels open_of sound h.
    AreLabelsNumberedBeforePlace-open j m labels open_of c.args.place c.args.table.now c.args.count sound h c.requires.inside c.if-label-place.true

pub returns-else-label-place-clause-numbered : goal.returns-else-label-place-clause-numbered
returns-else-label-place-clause-numbered c = λ j m labels open_of sound h.
    let le : get_or c.args.table.now c.args.place 0 ≤ c.args.place = c.requires.ready.down c.args.place (omega arith) in
    AreLabelsNumberedBeforePlace-closed j m labels open_of c.args.place c.args.table.now c.args.count sound h c.requires.inside (omega arith)
