use Rattle.std.proofs.Common.{◌≡◌, ℕ, length, None, get_or}
use Rattle.cell_core.specs.Grid.{cell_at}
use Rattle.cell_patches.specs.parts.Passes.{AreDiamondStepsOfRowAbove, IsMeasuringStateBeforeRow}
use Rattle.cell_patches.specs.parts.Passes.{cell_rows_above_or_null}
use Rattle.cell_patches.proofs.measuring.measure_patches_in_all_rows.Given as goal

abbrev pub ghost-measure_patches_in_row : goal.ghost-measure_patches_in_row
ghost-measure_patches_in_row g a = g.tile

abbrev pub invariant-loop-row : goal.invariant-loop-row
invariant-loop-row g l = record {
  state : IsMeasuringStateBeforeRow g.tile l.depth l.row l.patches.items;
  one : AreDiamondStepsOfRowAbove 1 g.tile.map l.row l.steps_above.items;
  two : AreDiamondStepsOfRowAbove 2 g.tile.map l.row l.steps_second_above.items;
  second : (c : ℕ) → get_or l.second_above.items c None ≡ cell_rows_above_or_null 2 g.tile.map l.row c;
  above : (c : ℕ) → get_or l.above.items c None ≡ cell_rows_above_or_null 1 g.tile.map l.row c;
  here : (c : ℕ) → get_or l.here.items c None ≡ cell_at g.tile.map l.row c;
  wide : length l.here.items ≡ g.tile.map.region.cols;
  steps_above : length l.steps_above.items ≡ length l.above.items;
  steps_second_above : length l.steps_second_above.items ≡ length l.second_above.items;
}
