use Rattle.std.proofs.Common.{◌+◌, ◌<◌, ◌≤◌, ℕ, suc, get_or, add-one, ap, sym, ◌∙◌, arith}
use Rattle.cell_stats_combinations.specs.Combinations.{combination_cmp}
use Rattle.cell_stats_combinations.proofs.JoinLemmas.{strictly}
use Rattle.cell_stats_combinations.proofs.ordered.entries_are_ascending.Goals as goal

before : (i : ℕ) {size at : ℕ} → suc i < size → size ≤ at → i + 1 < at
before i within ended = omega arith

pub returns : goal.returns
returns c _ =
    let entries = c.args.entries.now in
    strictly entries (λ i d within. ap (λ n. combination_cmp (get_or entries i d).0 (get_or entries n d).0) (sym (add-one i))
    ∙ c.loop-at.invariant i d (before i within c.loop-at-test.false))
