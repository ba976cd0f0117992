use Rattle.std.proofs.Common.{ℕ, zero, suc, ◌≡◌, ◌<◌, ◌≢◌, ◌∙◌, ◌+◌, ◌-◌, length, arith, subst, get_or}
use Rattle.std.proofs.Common.{List, below_more, get_or-set_other, get_or-set_same}
use Rattle.cell_patches.specs.declared.near_rows.RowsAroundRow.{RowsAroundRow}
use Rattle.cell_patches.specs.parts.Passes.{RowsGiveDiamondStepsOfCell}
use Rattle.cell_patches.proofs.StepLemmas.{steps_first, steps_rest}
use Rattle.cell_patches.proofs.core_steps.write_diamond_steps_of_row.Goals as goal

first : (lines : RowsAroundRow) (above second_above here : List ℕ) → get_or here 0 0 ≡ 0 → (k : ℕ) → k < 1
    → RowsGiveDiamondStepsOfCell lines k above second_above (get_or here k 0)
first lines above second_above here blank zero lt = rw blank (steps_first lines above second_above)
first lines above second_above here blank (suc k) lt = absurd (omega arith)

pub loop-col-init : goal.loop-col-init
loop-col-init c = record {
  before = first c.args.lines.now c.args.above.now c.args.second_above.now c.args.here.now (c.requires.zeros 0);
  after = λ k le. c.requires.zeros k;
}

pub loop-col-preserved : goal.loop-col-preserved
loop-col-preserved c =
    let lt : c.loop-col.col < length c.loop-col.here = omega arith in
    let back : (c.loop-col.col - 1) + 1 ≡ c.loop-col.col = omega arith in
    record {
      before = below_more _ _
          (λ k h. let ne : k ≢ c.loop-col.col = omega arith in
          rw get_or-set_other (c.loop-col.invariant.before k h))
          (rw get_or-set_same
          (subst (λ x. RowsGiveDiamondStepsOfCell c.args.lines.now x c.args.above.now c.args.second_above.now
          c.diamond_steps_of_cell.result) back c.diamond_steps_of_cell.ensures));
      after = λ k le. let ne : k ≢ c.loop-col.col = omega arith in
          rw get_or-set_other (c.loop-col.invariant.after k (omega arith));
    }

pub returns : goal.returns
returns c =
    let wide : length c.loop-col.here ≡ length c.args.lines.now.here.now = c.loop-col.auto.here ∙ c.requires.wide in
    steps_rest c.args.lines.now c.args.above.now c.args.second_above.now c.loop-col.here c.loop-col.col (omega arith)
    c.loop-col.invariant.before c.loop-col.invariant.after wide (omega arith)
