use Rattle.std.proofs.Common.{◌≡◌, ◌∙◌, ◌+◌, ◌-◌, arith, sym, ap, subst}
use Rattle.cell_core.specs.Grid.{Grid}
use Rattle.cell_patches.specs.parts.Passes.{AreCoresOfPatchesUpToCell, IsCoreAddedToPatch}
use Rattle.cell_patches.proofs.PassLemmas.{core_has_room}
use Rattle.cell_patches.proofs.CoreLemmas.{core_number, no_core_number, core_added, core_passed, core_row}
use Rattle.cell_patches.proofs.CoreLemmas.{others_added}
use Rattle.cell_patches.proofs.core_counts.add_row_of_cells_to_cores.Goals.{then-is_lowest_cell_below_core}
use Rattle.cell_patches.proofs.core_counts.add_row_of_cells_to_cores.Goals.{else-is_lowest_cell_below_core}
use Rattle.cell_patches.proofs.core_counts.add_row_of_cells_to_cores.Goals as goal

pub add_core_to_numbered_patch-requires-clause-least : goal.add_core_to_numbered_patch-requires-clause-least
add_core_to_numbered_patch-requires-clause-least g c =
    let n =
    core_number g.tile c.args.numbers.now c.args.left c.args.depth c.args.row c.loop-col.col c.args.below.now
    c.args.steps.now _ _ _ c.requires.0 c.requires.1.0
    (sym c.is_lowest_cell_below_core.ensures ∙ c.if-is_lowest_cell_below_core.true) c.deref.ensures.value
    c.in_ok-line.ensures.line c.in_ok-line.ensures.wide (omega arith) c.cell_in_column_or_null.ensures in
    let is = c.patch_number_or_zero.ensures (n.0 + 1) n.1 in
    omega arith

pub add_core_to_numbered_patch-requires-clause-listed : goal.add_core_to_numbered_patch-requires-clause-listed
add_core_to_numbered_patch-requires-clause-listed g c =
    let n =
    core_number g.tile c.args.numbers.now c.args.left c.args.depth c.args.row c.loop-col.col c.args.below.now
    c.args.steps.now _ _ _ c.requires.0 c.requires.1.0
    (sym c.is_lowest_cell_below_core.ensures ∙ c.if-is_lowest_cell_below_core.true) c.deref.ensures.value
    c.in_ok-line.ensures.line c.in_ok-line.ensures.wide (omega arith) c.cell_in_column_or_null.ensures in
    let is = c.patch_number_or_zero.ensures (n.0 + 1) n.1 in
    let most = c.requires.1.1.0 c.loop-col.col (n.0 + 1) n.2 in
    let long = c.loop-col.invariant.others.long in
    omega arith

pub add_core_to_numbered_patch-requires-clause-room : goal.add_core_to_numbered_patch-requires-clause-room
add_core_to_numbered_patch-requires-clause-room g c =
    let cols = ap (λ (m : Grid). m.region.cols) c.requires.0 in
    let wide = c.in_ok-line.ensures.wide in
    let ready = c.requires.1.0 in
    let row = ready.row in
    let in_rows = ready.valid.inside.rows in
    let in_cols = ready.valid.inside.cols in
    let rows_most = ready.valid.rows_most in
    let cols_most = ready.valid.cols_most in
    core_has_room g.tile c.args.depth c.args.row c.loop-col.col (c.patch_number_or_zero.result - 1)
    c.loop-col.patches.items (omega arith) (omega arith) (omega arith) c.loop-col.invariant.counted

pub loop-col-preserved : goal.loop-col-preserved
loop-col-preserved g c =
    elim c.if-is_lowest_cell_below_core.branch [
      | then-is_lowest_cell_below_core w ↦
          (let n =
          core_number g.tile c.args.numbers.now c.args.left c.args.depth c.args.row c.loop-col.col c.args.below.now
          c.args.steps.now _ _ _ c.requires.0 c.requires.1.0
          (sym c.is_lowest_cell_below_core.ensures ∙ w.if-is_lowest_cell_below_core.true) w.deref.ensures.value
          c.in_ok-line.ensures.line c.in_ok-line.ensures.wide (omega arith) w.cell_in_column_or_null.ensures in
          let is = w.patch_number_or_zero.ensures (n.0 + 1) n.1 in
          let place : w.patch_number_or_zero.result - 1 ≡ n.0 = omega arith in
          let adds =
          subst (λ x. IsCoreAddedToPatch c.loop-col.patches.items w.add_core_to_numbered_patch.new.patches.items x)
          place w.add_core_to_numbered_patch.ensures in
          rw w.patches-is (record {
            counted = core_added g.tile c.args.depth c.args.row c.loop-col.col n.0 c.loop-col.patches.items
                w.add_core_to_numbered_patch.new.patches.items n.2 n.3 adds c.loop-col.invariant.counted;
            others = others_added n.0 c.args.patches.now.items c.loop-col.patches.items
                w.add_core_to_numbered_patch.new.patches.items c.loop-col.invariant.others adds;
          }))
      | else-is_lowest_cell_below_core w ↦
          rw w.patches-is (record {
            counted = core_passed g.tile c.args.depth c.args.row c.loop-col.col c.loop-col.patches.items
                (no_core_number g.tile c.args.left c.args.depth c.args.row c.loop-col.col c.args.below.now
                c.args.steps.now c.requires.1.0
                (sym c.is_lowest_cell_below_core.ensures ∙ w.if-is_lowest_cell_below_core.false))
                c.loop-col.invariant.counted;
            others = c.loop-col.invariant.others;
          })
    ]

pub returns-clause-counted : goal.returns-clause-counted
returns-clause-counted g c =
    let cols = ap (λ (m : Grid). m.region.cols) c.requires.0 in
    let wide = c.in_ok-line.ensures.wide in
    let past = c.loop-col-test.false in
    let end = c.loop-col.auto.col-end in
    let same : c.loop-col.col ≡ g.tile.numbers.region.cols = omega arith in
    core_row g.tile c.args.depth c.args.row c.loop-col.patches.items
    (subst (λ x. AreCoresOfPatchesUpToCell g.tile c.args.depth c.args.row x c.loop-col.patches.items) same
    c.loop-col.invariant.counted)
