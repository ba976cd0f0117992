use Rattle.std.proofs.Common.{◌≡◌, ◌+◌, ◌-◌, get_or, arith}
use Rattle.cell_join_numbers.proofs.SearchLemmas.{place-low}
use Rattle.cell_join_numbers.proofs.NumberedLemmas.{root, closed, low-set}
use Rattle.cell_join_numbers.proofs.numbers.number_label_at_place.Goals as goal

pub overflow_sub-table : goal.overflow_sub-table
overflow_sub-table c =
    let here : get_or c.args.table.now c.args.place 0 ≡ c.args.place = c.if-node-place.true in
    omega (arith, here, place-low c.args.paired.now c.requires.in_order c.args.place (omega (arith, c.requires.inside, c.requires.long)))

pub returns-then-node-place-clause-numbered : goal.returns-then-node-place-clause-numbered
returns-then-node-place-clause-numbered c = λ labels pairs joined h.
    let here : get_or c.args.table.now c.args.place 0 ≡ c.args.place = c.if-node-place.true in
    let low = place-low c.args.paired.now c.requires.in_order c.args.place (omega (arith, c.requires.inside, c.requires.long)) in
    root labels pairs c.args.paired.now joined c.args.table.now c.args.place c.args.count h c.requires.long c.requires.inside
    (get_or c.args.paired.now c.args.place 0 - get_or c.args.table.now c.args.place 0 + c.args.count) here (omega (arith, here, low))

pub returns-else-node-place-clause-numbered : goal.returns-else-node-place-clause-numbered
returns-else-node-place-clause-numbered c = λ labels pairs joined h.
    closed labels pairs c.args.paired.now joined c.args.table.now c.args.place c.args.count h c.requires.long c.requires.inside
    (omega (arith, c.requires.down, c.if-node-place.false))

pub returns-then-node-place-clause-low : goal.returns-then-node-place-clause-low
returns-then-node-place-clause-low c =
    let here : get_or c.args.table.now c.args.place 0 ≡ c.args.place = c.if-node-place.true in
    let low = place-low c.args.paired.now c.requires.in_order c.args.place (omega (arith, c.requires.inside, c.requires.long)) in
    low-set c.args.table.now c.args.paired.now c.args.place (get_or c.args.paired.now c.args.place 0 - get_or c.args.table.now c.args.place 0 + c.args.count) c.requires.inside (omega (arith, here, low, c.requires.few)) c.requires.low
