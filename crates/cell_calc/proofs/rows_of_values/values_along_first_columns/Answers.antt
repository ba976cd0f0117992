use Rattle.std.proofs.Common.{◌≡◌, ◌<◌, ◌≤◌, ◌+◌, ◌-◌, ◌++◌, ◌∷◌, [], ℕ, List, length}
use Rattle.std.proofs.Common.{None, Bool, true, false, min, refl, sym, ap, subst, arith}
use Rattle.std.specs.Prelude.{nat_lt}
use Rattle.std.proofs.lemmas.List.{get_or_append_left, get_or-append_right, length-append}
use Rattle.std.proofs.lemmas.Result.{IfOk-from_err}
use Rattle.cell_core.specs.Grid.{CellValue}
use Rattle.cell_calc_language.specs.Applied.{grid_position}
use Rattle.cell_calc_grammar.specs.Postfix.{operands_after_steps}
use Rattle.cell_calc.specs.RowValues.{at}
use Rattle.cell_calc.specs.parts.Operands.{step_result_from_windows}
use Rattle.cell_calc.proofs.rows_of_values.values_along_first_columns.Goals as goal

-- a strip lies within the row
within : (from width cols : ℕ) → from ≤ cols → width ≡ min 1024 (cols - from) → from + width ≤ cols
within from width cols le is = omega arith

further : (from width cols : ℕ) → from < cols → width ≡ min 1024 (cols - from) → cols - (from + width) < cols - from
further from width cols lt is = omega arith

-- after the loop, the row has the requested number of columns
ended : (n from cols : ℕ) → n ≡ from → from ≤ cols → cols ≤ from → n ≡ cols
ended n from cols width within over = omega arith

before_end : (k from cols : ℕ) → cols ≤ from → k < cols → k < from
before_end k from cols over lt = omega arith

no_further : (n cols all : ℕ) → n ≤ cols → cols ≤ all → n ≤ all
no_further n cols all le most = omega arith

none_below : (k : ℕ) → k < 0 → ⊥
none_below k lt = omega arith

least : (n : ℕ) → 0 ≤ n
least n = omega arith

-- the first strip begins at the start of the row
from_start : (k : ℕ) → 0 + k ≡ k
from_start k = omega arith

-- a row extended by the cells of one more strip
module _ (old strip values new : List CellValue) (from width : ℕ) (is : new ≡ old ++ strip) (same : strip ≡ values)
    (count : length old ≡ from) (wide : length values ≡ width) where
  longer : length new ≡ from + width
  longer = rw (is, same, length-append old values, count, wide) refl

  one_more : (P : ℕ → CellValue → Type 0) → ((c : ℕ) → c < from → P c (at old c))
      → ((c : ℕ) → c < width → P (from + c) (at values c)) → (c : ℕ) → c < from + width → (b : Bool) → nat_lt c from ≡ b
      → P c (at new c)
  one_more P before there c lt true h =
      let below : c < from = grind arith in
      let old_c : at new c ≡ at old c = rw is (get_or_append_left old strip None c (rw count below)) in
      subst (P c) (sym old_c) (before c below)
  one_more P before there c lt false h =
      let above : from ≤ c = grind arith in
      let place : from + (c - from) ≡ c = omega arith in
      let new_c : at new c ≡ at values (c - from) =
      rw (is, same) (get_or-append_right old values from c None count above) in
      subst (P c) (sym new_c) (subst (λ k. P k (at values (c - from))) place (there (c - from) (omega (arith, lt))))

pub values_along_strip-requires : goal.values_along_strip-requires
values_along_strip-requires c = record {
  strip = record {
    row = c.requires.row;
    columns = subst (λ n. n ≤ c.args.region.cols) (sym (from_start c.args.cols)) c.requires.cols;
    most = c.cols-all.ensures.region.cols_most;
  };
  ready = c.requires.ready;
  enough = c.requires.enough;
}

pub returns-in_err-only : goal.returns-in_err-only
returns-in_err-only c =
    let failed = IfOk-from_err c.from_residual.result in
    record { width = failed _ c.from_residual.ensures.0; each = failed _ c.from_residual.ensures.0 }

pub returns-then-cols-le-STRIP_COLUMNS-clause-width : goal.returns-then-cols-le-STRIP_COLUMNS-clause-width
returns-then-cols-le-STRIP_COLUMNS-clause-width c = c.in_ok-only.ensures.width

pub returns-then-cols-le-STRIP_COLUMNS-clause-each : goal.returns-then-cols-le-STRIP_COLUMNS-clause-each
returns-then-cols-le-STRIP_COLUMNS-clause-each c = λ k h.
    subst (λ n. at c.in_ok-only.only.items k ∷ [] ≡ operands_after_steps
    (step_result_from_windows c.args.windows.now (grid_position c.args.region c.args.row n)) c.args.steps.now [])
    (from_start k) (c.in_ok-only.ensures.each k h)

pub returns-in_err-cells : goal.returns-in_err-cells
returns-in_err-cells c =
    let failed = IfOk-from_err c.from_residual-in_err-cells.result in
    let is = c.from_residual-in_err-cells.ensures.0 in
    record { width = failed _ is; each = failed _ is }

pub strips-init : goal.strips-init
strips-init c = record {
  within = least c.args.cols;
  width = ap (λ l. length l) c.in_ok-cells.ensures.items;
  done = λ k h. absurd (none_below k h);
}

pub overflow_sub-cols : goal.overflow_sub-cols
overflow_sub-cols c = c.strips.invariant.within

pub values_along_strip-requires-in-strips : goal.values_along_strip-requires-in-strips
values_along_strip-requires-in-strips c = record {
  strip =
      let from = c.strips.from in
      let width = c.min-width.result in
      let inside = within from width c.args.cols c.strips.invariant.within c.min-width.ensures in
      record {
        row = c.requires.row;
        columns = no_further (from + width) c.args.cols _ inside c.requires.cols;
        most = c.cols-all.ensures.region.cols_most;
      };
  ready = c.requires.ready;
  enough = c.requires.enough;
}

pub returns-in_err-values : goal.returns-in_err-values
returns-in_err-values c =
    let failed = IfOk-from_err c.from_residual-in_err-values.result in
    let is = c.from_residual-in_err-values.ensures.0 in
    record { width = failed _ is; each = failed _ is }

pub returns-in_err-extend_from_slice : goal.returns-in_err-extend_from_slice
returns-in_err-extend_from_slice c =
    let failed = IfOk-from_err c.from_residual-in_err-extend_from_slice.result in
    let is = c.from_residual-in_err-extend_from_slice.ensures.0 in
    record { width = failed _ is; each = failed _ is }

pub returns-in_err-push : goal.returns-in_err-push
returns-in_err-push c =
    let failed = IfOk-from_err c.from_residual-in_err-push.result in
    let is = c.from_residual-in_err-push.ensures.0 in
    record { width = failed _ is; each = failed _ is }

pub strips-smaller : goal.strips-smaller
strips-smaller c =
    further c.strips.from c.min-width.result c.args.cols c.strips-test.true c.min-width.ensures

pub strips-preserved : goal.strips-preserved
strips-preserved c =
    let old = c.strips.cells.items in
    let from = c.strips.from in
    let width = c.min-width.result in
    let so_far = c.strips.invariant in
    let is = c.in_ok-extend_from_slice.ensures.items in
    let new = c.extend_from_slice.new.self.items in
    let values = c.in_ok-values in
    let same = c.as_slice.ensures.value in
    record {
      within = within from width c.args.cols so_far.within c.min-width.ensures;
      width = longer old c.as_slice.result.now values.values.items new from width is same so_far.width
          values.ensures.width;
      done = λ k h.
          one_more old c.as_slice.result.now values.values.items new from width is same so_far.width
          values.ensures.width
          (λ i v. v ∷ [] ≡ operands_after_steps
          (step_result_from_windows c.args.windows.now (grid_position c.args.region c.args.row i)) c.args.steps.now [])
          so_far.done values.ensures.each k h (nat_lt k from) refl;
    }

pub returns-clause-width : goal.returns-clause-width
returns-clause-width c =
    ended _ c.strips.from c.args.cols c.strips.invariant.width c.strips.invariant.within c.strips-test.false

pub returns-clause-each : goal.returns-clause-each
returns-clause-each c = λ k h. c.strips.invariant.done k (before_end k c.strips.from c.args.cols c.strips-test.false h)
