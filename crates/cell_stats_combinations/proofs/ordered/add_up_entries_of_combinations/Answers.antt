use Rattle.std.proofs.Common.{◌≡◌, ◌+◌, ◌<◌, ◌≤◌, ◌^◌, ℕ, zero, suc, ◌==◌, false, [], length, get_or, arith, sym, ◌∙◌, refl}
use Rattle.cell_stats_combinations.proofs.JoinLemmas.{strictly, joined-start, joined-fits, end-ascends}
use Rattle.cell_stats_combinations.proofs.ordered.add_up_entries_of_combinations.Goals as goal

low : (sum : ℕ) {all : ℕ} → sum ≤ all → all < 2 ^ 64 → sum < 2 ^ 64
low sum le room = omega arith

some_in : (n : ℕ) → (n == 0) ≡ false → 0 < n
some_in zero e = cc
some_in (suc n) e = omega arith

pub returns-then-is_empty-clause-ascending : goal.returns-then-is_empty-clause-ascending
returns-then-is_empty-clause-ascending c = strictly [] (λ i d within. absurd (omega (arith, within)))

pub loop-at-init : goal.loop-at-init
loop-at-init c = joined-start c.args.entries.now c.requires.rising c.requires.no_zero (some_in (length c.args.entries.now) (sym c.is_empty.ensures ∙ c.if-is_empty.false))

pub add_up_or_keep_entry-last-requires-clause-fits : goal.add_up_or_keep_entry-last-requires-clause-fits
add_up_or_keep_entry-last-requires-clause-fits c = λ d same.
    let now = c.loop-at.entries in
    let k = (get_or now c.loop-at.at d).0 in
    low ((get_or now c.loop-at.last d).1 + (get_or now c.loop-at.at d).1)
    (joined-fits c.args.entries.now c.requires.rising c.requires.no_zero now c.loop-at.last c.loop-at.at d c.loop-at.invariant c.loop-at-test.true k same refl)
    (c.requires.fits k)

pub returns-clause-ascending : goal.returns-clause-ascending
returns-clause-ascending c = end-ascends c.args.entries.now c.loop-at.entries c.loop-at.last c.loop-at.at c.loop-at.invariant c.loop-at-test.false
