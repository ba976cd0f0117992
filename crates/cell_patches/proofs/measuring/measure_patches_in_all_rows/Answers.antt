use Rattle.std.proofs.Common.{◌∙◌, ◌+◌, arith, ap, sym, ℕ, List, length, None, get_or}
use Rattle.cell_core.specs.Grid.{Grid, CellValue, cell_at}
use Rattle.cell_patches.proofs.MeasureLemmas.{steps_next_one, steps_next_two, steps_none_above, above_next_one}
use Rattle.cell_patches.proofs.MeasureLemmas.{above_next_two, state_first}
use Rattle.cell_patches.proofs.measuring.measure_patches_in_all_rows.Goals as goal

pub loop-row-init : goal.loop-row-init
loop-row-init g c = record {
  state = state_first g.tile c.args.depth c.new-patches.result.items c.new-patches.ensures.items;
  one = steps_none_above 1 g.tile.map _ (omega arith);
  two = steps_none_above 2 g.tile.map _ (omega arith);
  second = λ k. ap (λ (xs : List CellValue). get_or xs k None) c.new-second_above.ensures.items;
  above = λ k. ap (λ (xs : List CellValue). get_or xs k None) c.new-above.ensures.items;
  here = λ k. ap (λ (xs : List CellValue). get_or xs k None) c.in_ok-here.ensures.line
      ∙ ap (λ (m : Grid). cell_at m 0 k) (sym c.requires.0);
  wide = c.in_ok-here.ensures.wide ∙ ap (λ (m : Grid). m.region.cols) (sym c.requires.0);
  steps_above = ap (λ (xs : List ℕ). length xs) c.new-steps_above.ensures.items
      ∙ sym (ap (λ (xs : List CellValue). length xs) c.new-above.ensures.items);
  steps_second_above = ap (λ (xs : List ℕ). length xs) c.new-steps_second_above.ensures.items
      ∙ sym (ap (λ (xs : List CellValue). length xs) c.new-second_above.ensures.items);
}

pub loop-row-preserved : goal.loop-row-preserved
loop-row-preserved g c = record {
  state = c.in_ok-steps.ensures.state;
  one = steps_next_one g.tile.map c.loop-row.row _ c.in_ok-steps.ensures.steps;
  two = steps_next_two g.tile.map c.loop-row.row _ c.loop-row.invariant.one;
  second = λ k. c.loop-row.invariant.above k ∙ above_next_two g.tile.map c.loop-row.row k;
  above = λ k. c.loop-row.invariant.here k ∙ above_next_one g.tile.map c.loop-row.row k;
  here = λ k. c.in_ok-below.ensures.line k
      ∙ ap (λ (m : Grid). cell_at m (c.loop-row.row + 1) k) (sym c.requires.0);
  wide = c.in_ok-below.ensures.wide ∙ ap (λ (m : Grid). m.region.cols) (sym c.requires.0);
  steps_above = c.in_ok-steps.ensures.wide
      ∙ ap (λ (xs : List CellValue). length xs) c.deref-in-loop-row-2.ensures.value;
  steps_second_above = c.loop-row.invariant.steps_above;
}
