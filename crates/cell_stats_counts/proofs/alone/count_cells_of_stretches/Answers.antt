use Rattle.std.proofs.Common.{◌≡◌, ◌<◌, ℕ, ◌+◌, ◌^◌, List, [], ◌∷◌, length, add-zero, true, false, cond, arith, ap, sym, ◌∙◌}
use Rattle.std.proofs.lemmas.Result.{IfOk-from_err}
use Rattle.cell_core.specs.Runs.{RunValue}
use Rattle.cell_stats_combinations.specs.declared.skip.Skip.{Skip}
use Rattle.cell_stats_combinations.specs.Combinations.{Combination}
use Rattle.cell_stats_counts.specs.parts.Alone.{combination_of_one_cell}
use Rattle.cell_stats_combinations.specs.parts.Same.{are_same_combination}
use Rattle.cell_stats_counts.specs.parts.CountsUnderWay.{counted_cell_count_of_combination}
use Rattle.cell_stats_combinations.specs.LeftOut.{combination_is_left_out}
use Rattle.cell_stats_counts.proofs.RunCountLemmas.{runs-count, run-left, run-more, room-left, room-more, room-first}
use Rattle.cell_stats_counts.proofs.alone.count_cells_of_stretches.Goals as goal

fit : (total : ℕ) {count more : ℕ} → total + count < 2 ^ 64 → more ≡ count → total + more < 2 ^ 64
fit total room same = omega arith

some_same : {n m : ℕ} → 0 < n → m ≡ n → 0 < m
some_same some same = omega arith

shorter : {X : Type 0} (x : X) (rest : List X) {all : List X} → all ≡ x ∷ rest → length rest < length all
shorter x rest steps = omega (arith, ap length steps)

-- when no runs are left, all runs are counted
all_counted : (skip : Skip) (k : Combination) (runs : List RunValue) (now : ℕ) {all : ℕ} → runs ≡ []
    → now + runs-count skip k runs ≡ all → now ≡ all
all_counted skip k runs now none counted =
    sym (add-zero now) ∙ ap (λ (l : List RunValue). now + runs-count skip k l) (sym none) ∙ counted

pub add_combination_count-requires-clause-fits : goal.add_combination_count-requires-clause-fits
add_combination_count-requires-clause-fits c = λ k.
    let runs : List RunValue = c.loop-cell.cell-iterator in
    let rest : List RunValue = c.next.new.self in
    let room = room-first c.args.skip k runs rest c.in-Some.cell c.in-Some.count c.in-Some.ensures.steps
    (counted_cell_count_of_combination 1 k c.loop-cell.places c.loop-cell.entries.items) (2 ^ 64)
    (c.loop-cell.invariant.room k) in
    fit (counted_cell_count_of_combination 1 k c.loop-cell.places c.loop-cell.entries.items) room c.from.ensures

pub loop-cell-preserved-in-Continue-1 : goal.loop-cell-preserved-in-Continue-1
loop-cell-preserved-in-Continue-1 c =
    let runs : List RunValue = c.loop-cell.cell-iterator in
    let rest : List RunValue = c.next.new.self in
    let x = c.in-Some.cell in
    let n = c.in-Some.count in
    let skip = c.args.skip in
    let inv = c.loop-cell.invariant in
    let steps : runs ≡ (x, n) ∷ rest = c.in-Some.ensures.steps in
    let kept_in : combination_is_left_out skip (combination_of_one_cell x)
    ≡ false = sym c.combination_is_left_out.ensures ∙ c.if-not-combination_is_left_out.true in
    let grown : (k : Combination) → counted_cell_count_of_combination 1 k c.add_combination_count.new.places
    c.add_combination_count.new.entries.items ≡ counted_cell_count_of_combination 1 k c.loop-cell.places
    c.loop-cell.entries.items + cond (are_same_combination k (combination_of_one_cell x)) n 0 = λ k.
    c.in_ok-add_combination_count.ensures.counts k
    ∙ ap (λ (m : ℕ). counted_cell_count_of_combination 1 k c.loop-cell.places c.loop-cell.entries.items + cond
    (are_same_combination k (combination_of_one_cell x)) m 0)
    c.from.ensures in
    record {
      counted = λ k. run-more skip k runs rest x n steps _ _ _ kept_in (grown k) (inv.counted k);
      room = λ k. room-more skip k runs rest x n steps _ _ (2 ^ 64) (grown k) (inv.room k);
      going = c.in_ok-add_combination_count.ensures.going;
    }

pub loop-cell-preserved : goal.loop-cell-preserved
loop-cell-preserved c =
    let runs : List RunValue = c.loop-cell.cell-iterator in
    let rest : List RunValue = c.next.new.self in
    let x = c.in-Some.cell in
    let n = c.in-Some.count in
    let skip = c.args.skip in
    let inv = c.loop-cell.invariant in
    let steps : runs ≡ (x, n) ∷ rest = c.in-Some.ensures.steps in
    let out : combination_is_left_out skip (combination_of_one_cell x) ≡ true = sym c.combination_is_left_out.ensures
    ∙ c.if-not-combination_is_left_out.false in
    record {
      counted = λ k. run-left skip k runs rest x n steps _ _ out (inv.counted k);
      room = λ k. room-left skip k runs rest x n steps _ (2 ^ 64) (inv.room k);
      going = inv.going;
    }

pub loop-cell-init : goal.loop-cell-init
loop-cell-init c =
    let same = c.into_iter-cell-iterator.ensures.into_iter_gives in
    record {
      counted = λ k. ap (λ (l : List RunValue). counted_cell_count_of_combination 1 k c.args.places.now
          c.args.entries.now.items + runs-count
          c.args.skip k l) same;
      room = λ k. rw same (c.requires.fits k);
      going = c.requires.going;
    }

pub add_combination_count-requires-clause-going : goal.add_combination_count-requires-clause-going
add_combination_count-requires-clause-going c = c.loop-cell.invariant.going

pub loop-cell-smaller-in-Continue-1 : goal.loop-cell-smaller-in-Continue-1
loop-cell-smaller-in-Continue-1 c = shorter (c.in-Some.cell, c.in-Some.count) c.next.new.self c.in-Some.ensures.steps

pub returns-in_err-add_combination_count-clause-ok : goal.returns-in_err-add_combination_count-clause-ok
returns-in_err-add_combination_count-clause-ok c = IfOk-from_err c.from_residual.result _ c.from_residual.ensures.0

pub returns-in_err-add_combination_count-clause-going : goal.returns-in_err-add_combination_count-clause-going
returns-in_err-add_combination_count-clause-going c = IfOk-from_err c.from_residual.result _ c.from_residual.ensures.0

pub loop-cell-smaller : goal.loop-cell-smaller
loop-cell-smaller c = shorter (c.in-Some.cell, c.in-Some.count) c.next.new.self c.in-Some.ensures.steps

pub returns-clause-ok : goal.returns-clause-ok
returns-clause-ok c =
    λ k. all_counted c.args.skip k c.loop-cell.cell-iterator (counted_cell_count_of_combination 1 k c.loop-cell.places
    c.loop-cell.entries.items)
    c.in-None.ensures.steps.0 (c.loop-cell.invariant.counted k)

pub returns-clause-going : goal.returns-clause-going
returns-clause-going c = c.loop-cell.invariant.going
