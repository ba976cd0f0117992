use Rattle.std.proofs.Common.{length, refl}
use Rattle.cell_stats_combinations.proofs.SideLemmas.{gathered-push}
use Rattle.cell_stats_combinations.proofs.gathered.push_combination_and_index_it.Goals as goal
use Rattle.cell_stats_combinations.proofs.gathered.push_combination_and_index_it.Goals.{in-Some, in_default}

pub returns-in_ok-table-clause-ok : goal.returns-in_ok-table-clause-ok
returns-in_ok-table-clause-ok c = λ k.
    let more = gathered-push k (length c.args.key.now) c.args.key.now c.args.table.now.cells.items c.args.table.now.counts.items c.args.count
    c.requires.side refl in
    let cells = c.in_ok-extend_from_slice.ensures.items in
    let counts = c.in_ok-push.ensures.items in
    elim c.match-get_mut.branch [
      | in-Some w ↦ rw (w.table-is, cells, counts) more
      | in_default w ↦ rw (w.table-is, cells, counts) more
    ]

pub returns-else-at-len-clause-ok : goal.returns-else-at-len-clause-ok
returns-else-at-len-clause-ok c = λ k.
    let more = gathered-push k (length c.args.key.now) c.args.key.now c.args.table.now.cells.items c.args.table.now.counts.items c.args.count
    c.requires.side refl in
    let cells = c.in_ok-extend_from_slice.ensures.items in
    let counts = c.in_ok-push.ensures.items in
    elim c.match-get_mut.branch [
      | in-Some w ↦ rw (w.table-is, cells, counts) more
      | in_default w ↦ rw (w.table-is, cells, counts) more
    ]
