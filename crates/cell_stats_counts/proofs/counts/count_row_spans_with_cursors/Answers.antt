use Rattle.std.proofs.Common.{◌≡◌, ◌<◌, ◌≤◌, ◌+◌, ◌-◌, ◌^◌, ◌++◌, Fits, w32, List, length, map, replicate, cond, true, false}
use Rattle.std.proofs.Common.{arith, ap, sym, ◌∙◌, append-nil, append_assoc, add-one, ℕ}
use Rattle.std.proofs.lemmas.Result.{IfOk-from_err}
use Rattle.std.proofs.lemmas.List.{length-map}
use Rattle.std.specs.List.{range_with_len}
use Rattle.cell_core_values.specs.Region.{RegionValue}
use Rattle.cell_core.specs.Grid.{CellValue}
use Rattle.cell_stats_combinations.specs.Combinations.{Combination, all_combinations, combination_at_row_and_column}
use Rattle.cell_stats_counts.specs.Counts.{cell_count_of_combination}
use Rattle.cell_stats_combinations.specs.Cursors.{RunCursorValue, to_come}
use Rattle.cell_stats_combinations.specs.parts.Same.{are_same_combination}
use Rattle.cell_stats_counts.specs.parts.CountsUnderWay.{counted_cell_count_of_combination}
use Rattle.cell_stats_counts.specs.parts.CountsUnderWay.{CanContinueCountingCombinations}
use Rattle.cell_stats_combinations.specs.LeftOut.{kept_cells, combination_is_left_out}
use Rattle.cell_stats_counts.proofs.HeldLemmas.{going_of}
use Rattle.cell_stats_combinations.proofs.WalkLemmas.{alike, alive, passed-on, stretch, all_combinations_more}
use Rattle.cell_stats_counts.proofs.CountLemmas.{count-left, count-more, count_small}
use Rattle.cell_stats_counts.proofs.counts.count_row_spans_with_cursors.Goals as goal
use Rattle.cell_stats_counts.proofs.counts.count_row_spans_with_cursors.Goals.{then-not-combination_is_left_out+in_ok-add_combination_count}
use Rattle.cell_stats_counts.proofs.counts.count_row_spans_with_cursors.Goals.{else-not-combination_is_left_out}

-- there are as many places as cursors
wide_as : (cursors : List RunCursorValue) (picks : List ℕ) (rows : ℕ → List CellValue)
    → map to_come cursors ≡ map rows picks → length picks ≡ length cursors
wide_as cursors picks rows same = sym (length-map picks rows) ∙ ap length (sym same) ∙ length-map cursors to_come

below : {n m most : ℕ} → n < m → m ≡ most → n < most
below lower same = omega arith

before : {n m most : ℕ} → n < m → m ≤ most → n ≤ most
before lower high = omega arith

at_most : {n m most : ℕ} → n ≡ m → m ≤ most → n ≤ most
at_most same high = omega arith

part : (count : ℕ) {col cols most : ℕ} → col + count ≤ cols → cols ≤ most → col ≤ most
part count within high = omega arith

fit : {n cols : ℕ} → n ≤ cols → cols ≤ 65535 → Fits w32 n
fit within high = omega arith

least : (n : ℕ) → 0 ≤ n
least n = omega arith

from_start : {n m : ℕ} → n ≤ m → 0 + n ≤ m
from_start within = omega arith

some_left : {n m : ℕ} → n < m → 0 < m - n
some_left lower = omega arith

still_within : {n more most : ℕ} → n ≤ most → more ≤ most - n → n + more ≤ most
still_within within left = omega arith

fewer : (col : ℕ) {count cols : ℕ} → 0 < count → col + count ≤ cols → cols - (col + count) < cols - col
fewer col some within = omega arith

at_end : (count : ℕ) {col last cols : ℕ} → col + count ≤ last → last ≤ col → last ≡ cols → col ≡ cols
at_end count within ended same = omega arith

sum_fits : (col : ℕ) {total counted count more cols : ℕ} → total ≡ counted → counted < 2 ^ 63 → more ≤ count
    → col + count ≤ cols → cols ≤ 65535 → total + more < 2 ^ 64
sum_fits col same small is within wide = omega arith

pub loop-col-init : goal.loop-col-init
loop-col-init c =
    let maps = c.args.selection.shelf.now.maps in
    let picks = c.args.selection.picks.now in
    let row = c.args.row in
    let first = c.advance_cursors_and_write_cells-count in
    let same_cols : c.cols-cols.result ≡ c.args.selection.shelf.now.region.cols = c.cols-cols.ensures.value ∙ ap (λ (r : RegionValue). r.cols) c.region.ensures.value in
    let here = passed-on maps row 0 0 c.args.cursors.now first.new.cursors picks first.ensures.passed c.requires.first in
    record {
      counted = λ k. c.requires.counted k ∙ ap (λ (l : List Combination). cell_count_of_combination k
          (kept_cells c.args.selection.skip l)) (sym (append-nil
          (all_combinations maps picks row c.args.selection.shelf.now.region.cols)));
      going = c.requires.going;
      to_come = here;
      ready = first.ensures.ready;
      cells = first.ensures.cells;
      least = first.ensures.least;
      some = λ h.
          let within = below h same_cols in
          first.ensures.some (alive maps row 0 first.new.cursors picks c.args.selection.shelf.now.region.cols here c.requires.wide within first.ensures.ready) h;
      most = from_start first.ensures.most;
    }

pub add_combination_count-requires-clause-fits : goal.add_combination_count-requires-clause-fits
add_combination_count-requires-clause-fits c = λ k.
    let picks = c.args.selection.picks.now in
    let cols = c.args.selection.shelf.now.region.cols in
    let same_cols : c.cols-cols.result ≡ cols = c.cols-cols.ensures.value ∙ ap (λ (r : RegionValue). r.cols) c.region.ensures.value in
    let width : length c.loop-col.cells ≡ length picks = c.loop-col.auto.cells
    ∙ c.advance_cursors_and_write_cells-count.auto.cells ∙ c.requires.cells in
    let inv = c.loop-col.invariant in
    let total = ap (λ w. counted_cell_count_of_combination w k c.loop-col.places c.loop-col.entries.items) width
    ∙ inv.counted k in
    let region = c.requires.region in
    let few_rows = before c.requires.row_in_range region.rows_most in
    let wide = at_most same_cols region.cols_most in
    let few = part c.loop-col.count inv.most wide in
    let small = count_small c.args.selection.shelf.now.maps picks cols c.args.selection.skip k c.args.row c.loop-col.col few_rows few region.cols_most in
    let more : c.from.result ≤ c.loop-col.count = omega arith in
    sum_fits c.loop-col.col total small more inv.most wide

pub loop-col-preserved : goal.loop-col-preserved
loop-col-preserved c =
    let maps = c.args.selection.shelf.now.maps in
    let picks = c.args.selection.picks.now in
    let row = c.args.row in
    let skip = c.args.selection.skip in
    let cols = c.args.selection.shelf.now.region.cols in
    let inv = c.loop-col.invariant in
    let col = c.loop-col.col in
    let count = c.loop-col.count in
    let cells = c.loop-col.cells in
    let next = c.advance_cursors_and_write_cells-count-in-loop-col in
    let f = combination_at_row_and_column maps picks row in
    let base = all_combinations maps picks row cols in
    let same_cols : c.cols-cols.result ≡ cols = c.cols-cols.ensures.value ∙ ap (λ (r : RegionValue). r.cols) c.region.ensures.value in
    let width : length cells ≡ length picks = c.loop-col.auto.cells ∙ c.advance_cursors_and_write_cells-count.auto.cells
    ∙ c.requires.cells in
    let here = passed-on maps row col count c.loop-col.cursors next.new.cursors picks next.ensures.passed inv.to_come in
    let longer : base ++ map f (range_with_len 0 (col + count)) ≡ (base ++ map f (range_with_len 0 col)) ++ replicate count cells =
    ap (λ (l : List Combination). base ++ l) (stretch f cells col count (λ j h. alike maps row col c.loop-col.cursors picks count j inv.to_come inv.least h ∙ sym inv.cells))
    ∙ sym (append_assoc base (map f (range_with_len 0 col)) (replicate count cells)) in
    let joined = c.if-not-combination_is_left_out in
    let counted : (k : Combination) → counted_cell_count_of_combination
    (length picks) k joined.places joined.entries.items
    ≡ cell_count_of_combination k (kept_cells skip (base ++ map f (range_with_len 0 (col + count)))) = λ k.
    elim joined.branch [
      | then-not-combination_is_left_out+in_ok-add_combination_count w ↦
          let kept_in : combination_is_left_out skip cells ≡ false = sym c.combination_is_left_out.ensures
          ∙ w.if-not-combination_is_left_out.true in
          rw (w.places-is, w.entries-is) (ap (λ n. counted_cell_count_of_combination n k
          w.add_combination_count.new.places
          w.add_combination_count.new.entries.items) (sym width)
          ∙ w.in_ok-add_combination_count.ensures.counts k
          ∙ ap (λ n. n + cond (are_same_combination k cells) w.from.result 0)
          (ap (λ n. counted_cell_count_of_combination n k c.loop-col.places c.loop-col.entries.items) width
          ∙ inv.counted k)
          ∙ ap (λ n. cell_count_of_combination k (kept_cells skip (base ++ map f (range_with_len 0 col))) + cond
          (are_same_combination k cells) n 0) w.from.ensures
          ∙ sym (count-more skip k cells count (base ++ map f (range_with_len 0 col)) kept_in)
          ∙ ap (λ (l : List Combination). cell_count_of_combination k (kept_cells skip l)) (sym longer))
      | else-not-combination_is_left_out w ↦
          let out : combination_is_left_out skip cells ≡ true = sym c.combination_is_left_out.ensures
          ∙ w.if-not-combination_is_left_out.false in
          rw (w.places-is, w.entries-is) (inv.counted k
          ∙ sym (count-left skip k cells count (base ++ map f (range_with_len 0 col)) out)
          ∙ ap (λ (l : List Combination). cell_count_of_combination k (kept_cells skip l)) (sym longer))
    ] in
    let going : CanContinueCountingCombinations (length picks) joined.places joined.entries.items =
    elim joined.branch [
      | then-not-combination_is_left_out+in_ok-add_combination_count w ↦ rw (w.entries-is, w.places-is)
          (going_of width w.in_ok-add_combination_count.ensures.going)
      | else-not-combination_is_left_out w ↦ rw (w.entries-is, w.places-is) inv.going
    ] in
    record {
      counted = counted;
      going = going;
      to_come = here;
      ready = next.ensures.ready;
      cells = next.ensures.cells;
      least = next.ensures.least;
      some = λ h.
          let within = below h same_cols in
          next.ensures.some (alive maps row (col + count) next.new.cursors picks cols here c.requires.wide
          within next.ensures.ready) (some_left h);
      most = still_within inv.most next.ensures.most;
    }

pub returns-clause-ok : goal.returns-clause-ok
returns-clause-ok c = λ k.
    let maps = c.args.selection.shelf.now.maps in
    let picks = c.args.selection.picks.now in
    let row = c.args.row in
    let cols = c.args.selection.shelf.now.region.cols in
    let same_cols : c.cols-cols.result ≡ cols = c.cols-cols.ensures.value ∙ ap (λ (r : RegionValue). r.cols) c.region.ensures.value in
    let inv = c.loop-col.invariant in
    let last = at_end c.loop-col.count inv.most c.loop-col-test.false same_cols in
    inv.counted k ∙ ap (λ n. cell_count_of_combination k (kept_cells c.args.selection.skip
    (all_combinations maps picks row cols ++ map (combination_at_row_and_column maps picks row)
    (range_with_len 0 n)))) last
    ∙ ap (λ (l : List Combination). cell_count_of_combination k (kept_cells c.args.selection.skip l))
    (sym (all_combinations_more maps picks cols row)) ∙ ap (λ r. cell_count_of_combination k
    (kept_cells c.args.selection.skip (all_combinations maps picks r cols))) (sym (add-one row))

pub advance_cursors_and_write_cells-count-requires-clause-within :
    goal.advance_cursors_and_write_cells-count-requires-clause-within
advance_cursors_and_write_cells-count-requires-clause-within c = λ k d within. least _

pub advance_cursors_and_write_cells-count-requires-clause-ready :
    goal.advance_cursors_and_write_cells-count-requires-clause-ready
advance_cursors_and_write_cells-count-requires-clause-ready c = c.requires.ready

pub advance_cursors_and_write_cells-count-requires-clause-width :
    goal.advance_cursors_and_write_cells-count-requires-clause-width
advance_cursors_and_write_cells-count-requires-clause-width c = c.requires.cells
    ∙ wide_as c.args.cursors.now c.args.selection.picks.now _ c.requires.first

pub add_combination_count-requires-clause-going : goal.add_combination_count-requires-clause-going
add_combination_count-requires-clause-going c =
    going_of (sym (c.loop-col.auto.cells ∙ c.advance_cursors_and_write_cells-count.auto.cells
    ∙ c.requires.cells)) c.loop-col.invariant.going

pub returns-in_err-add_combination_count-clause-ok : goal.returns-in_err-add_combination_count-clause-ok
returns-in_err-add_combination_count-clause-ok c =
    IfOk-from_err c.from_residual.result _ c.from_residual.ensures.0

pub returns-in_err-add_combination_count-clause-going : goal.returns-in_err-add_combination_count-clause-going
returns-in_err-add_combination_count-clause-going c =
    IfOk-from_err c.from_residual.result _ c.from_residual.ensures.0

pub overflow_add-col : goal.overflow_add-col
overflow_add-col c =
    let cols = c.cols-cols.ensures.value ∙ ap (λ (r : RegionValue). r.cols) c.region.ensures.value in
    fit c.loop-col.invariant.most (at_most cols c.requires.region.cols_most)

pub overflow_sub-cols : goal.overflow_sub-cols
overflow_sub-cols c = c.loop-col.invariant.most

pub advance_cursors_and_write_cells-count-requires-in-loop-col-clause-within :
    goal.advance_cursors_and_write_cells-count-requires-in-loop-col-clause-within
advance_cursors_and_write_cells-count-requires-in-loop-col-clause-within c = c.loop-col.invariant.least

pub advance_cursors_and_write_cells-count-requires-in-loop-col-clause-ready :
    goal.advance_cursors_and_write_cells-count-requires-in-loop-col-clause-ready
advance_cursors_and_write_cells-count-requires-in-loop-col-clause-ready c = c.loop-col.invariant.ready

pub advance_cursors_and_write_cells-count-requires-in-loop-col-clause-width :
    goal.advance_cursors_and_write_cells-count-requires-in-loop-col-clause-width
advance_cursors_and_write_cells-count-requires-in-loop-col-clause-width c =
    ap length c.loop-col.invariant.cells ∙ length-map c.loop-col.cursors (λ (x : RunCursorValue). x.cell)

pub loop-col-smaller : goal.loop-col-smaller
loop-col-smaller c = fewer c.loop-col.col (c.loop-col.invariant.some c.loop-col-test.true) c.loop-col.invariant.most

pub returns-clause-going : goal.returns-clause-going
returns-clause-going c = c.loop-col.invariant.going
