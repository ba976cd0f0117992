use Rattle.std.proofs.Common.{◌≡◌, ◌+◌, ◌<◌, ◌≤◌, ℕ, [], cond, take, take_all, get_or, ap, sym, ◌∙◌, arith}
use Rattle.std.proofs.lemmas.List.Sums.{sum_by_more}
use Rattle.cell_stats_combinations.specs.Combinations.{Combination}
use Rattle.cell_stats_combinations.specs.Listed.{CombinationCounts, entry_count_of_combination}
use Rattle.cell_stats_combinations.specs.Listed.{listed_count_of_combination}
use Rattle.cell_stats_combinations.specs.parts.Same.{are_same_combination}
use Rattle.cell_stats_combinations.specs.SideBySide.{counted_combinations_of_flat_list}
use Rattle.cell_stats_combinations.proofs.SideLemmas.{length-side, side-at}
use Rattle.cell_stats_combinations.proofs.gathered.push_counted_combinations.Goals as goal

same_size : (at : ℕ) {n m : ℕ} → at < n → m ≡ n → at < m
same_size at within same = omega arith

over : {at n m : ℕ} → n ≤ at → m ≡ n → m ≤ at
over ended same = omega arith

grown : (old part more : ℕ) {listed now next : ℕ} → listed ≡ old + part → now ≡ listed + more → next ≡ part + more → now ≡ old + next
grown old part more was pushed longer = omega arith

pub loop-at-preserved : goal.loop-at-preserved
loop-at-preserved c =
    let w = c.args.width in
    let cells = c.args.cells.now in
    let counts = c.args.counts.now in
    let at = c.loop-at.at in
    let all = counted_combinations_of_flat_list w cells counts in
    let d : Combination × ℕ = ([], 0) in
    let inside = same_size at c.loop-at-test.true (length-side w cells counts) in
    record {
      counted = λ k.
          grown (listed_count_of_combination k c.args.entries.now.items)
          (listed_count_of_combination k (take at all)) _ (c.loop-at.invariant.counted k)
          (c.in_ok-push_entry_unless_zero.ensures.ok k)
          (sum_by_more (entry_count_of_combination k) all at d inside
          ∙ ap (λ e. listed_count_of_combination k (take at all) + entry_count_of_combination k e)
          (side-at w cells counts at d 0 c.loop-at-test.true)
          ∙ ap (λ x. listed_count_of_combination k (take at all) + cond (are_same_combination k x)
          (get_or counts at 0) 0) (sym c.cells_of_combination_at.ensures));
      no_zero = c.in_ok-push_entry_unless_zero.ensures.no_zero;
    }

pub returns-clause-ok : goal.returns-clause-ok
returns-clause-ok c = λ k.
    let all = counted_combinations_of_flat_list c.args.width c.args.cells.now c.args.counts.now in
    let end = over c.loop-at-test.false (length-side c.args.width c.args.cells.now c.args.counts.now) in
    c.loop-at.invariant.counted k
    ∙ ap (λ (l : CombinationCounts). listed_count_of_combination k c.args.entries.now.items
    + listed_count_of_combination k l) (take_all c.loop-at.at all end)
