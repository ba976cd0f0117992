use Rattle.std.proofs.Common.{◌≡◌, ◌+◌, ℕ, get_or, arith}
use Rattle.cell_stats_combinations.proofs.SideLemmas.{gathered-push, gathered-set}
use Rattle.cell_stats_combinations.proofs.gathered.move_counted_combination.Goals as goal

moved : (to from less more : ℕ) {now : ℕ} → now ≡ to + more → less + more ≡ from → now + less ≡ to + from
moved to from less more grown taken = omega arith

pub returns-clause-ok : goal.returns-clause-ok
returns-clause-ok c = λ k.
    let w = c.args.width in
    let to = c.args.to.now in
    let counts = c.args.counts.now in
    let key = c.cells_of_combination_at-key.result.now in
    let more = gathered-push k w key to.cells.items to.counts.items (get_or counts c.args.at 0) c.requires.side
    c.if-key-width.false in
    rw (c.in_ok-extend_from_slice.ensures.items, c.in_ok-push.ensures.items) (moved _ _ _ _ more
    (gathered-set k w c.args.cells.now counts c.args.at key c.if-at-counts.false c.cells_of_combination_at-key.ensures))
