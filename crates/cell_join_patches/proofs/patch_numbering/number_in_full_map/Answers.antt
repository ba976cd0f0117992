use Rattle.std.proofs.Common.{sym, arith, ◌∙◌}
use Rattle.cell_join_patches.proofs.NumberLemmas.{number-at, number-of-gap}
use Rattle.cell_join_patches.proofs.patch_numbering.number_in_full_map.Goals.{then-at-runs-via-then-at-runs}
use Rattle.cell_join_patches.proofs.patch_numbering.number_in_full_map.Goals.{
  then-at-runs-via-else-at-runs+then-not-run_has_patch,
}
use Rattle.cell_join_patches.proofs.patch_numbering.number_in_full_map.Goals as goal

pub returns-then-at-runs : goal.returns-then-at-runs
returns-then-at-runs c =
    let runs = c.args.runs.now in
    let at = c.first_run_not_before_patch-at.result in
    let parted = c.first_run_not_before_patch-at.ensures in
    sym (number-of-gap runs c.args.tile c.args.patch at (record { tile = 0; first = 0; last = 0; number = 0 })
    c.requires parted
    (λ lt. elim c.then-at-runs.branch [
      | then-at-runs-via-then-at-runs w ↦ absurd (omega (arith, w.if-at-runs.true, lt))
      | then-at-runs-via-else-at-runs+then-not-run_has_patch w ↦ sym w.run_has_patch.ensures
          ∙ w.if-not-run_has_patch.true
    ]))

pub returns : goal.returns
returns c =
    let runs = c.args.runs.now in
    let at = c.first_run_not_before_patch-at.result in
    sym (number-at runs c.args.tile c.args.patch at (record { tile = 0; first = 0; last = 0; number = 0 })
    c.first_run_not_before_patch-at.ensures
    (omega (arith, c.if-at-runs.false)) (sym c.run_has_patch.ensures ∙ c.if-not-run_has_patch.false))
