use Rattle.std.proofs.Common.{◌∙◌, sym}
use Rattle.cell_patches.proofs.StepLemmas.{steps_impure, steps_pure}
use Rattle.cell_patches.proofs.core_steps.diamond_steps_of_cell.Goals as goal

pub returns-then-cell_equals_four_cells_above : goal.returns-then-cell_equals_four_cells_above
returns-then-cell_equals_four_cells_above c =
    steps_pure c.args.lines.now c.args.west c.saturating_add-steps.result c.args.above.now c.args.second_above.now
    (sym c.cell_equals_four_cells_above.ensures ∙ c.if-cell_equals_four_cells_above.true)
    (rw (← c.min.ensures, ← c.min-least.ensures) c.saturating_add-steps.ensures)

pub returns-else-cell_equals_four_cells_above : goal.returns-else-cell_equals_four_cells_above
returns-else-cell_equals_four_cells_above c =
    steps_impure c.args.lines.now c.args.west c.args.above.now c.args.second_above.now
    (sym c.cell_equals_four_cells_above.ensures ∙ c.if-cell_equals_four_cells_above.false)
