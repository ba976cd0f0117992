use Rattle.std.proofs.Common.{arith, ◌≡◌, ◌<◌, ◌+◌, length, ap, ◌∙◌}
use Rattle.std.proofs.lemmas.Grind.{common_steps}
use Rattle.cell_core_values.specs.Cell.{cell_eq}
use Rattle.cell_calc_modes.proofs.Frequent.{none_of, longest_first, longest_step, longest_all, kept_within}
use Rattle.cell_calc_modes.proofs.modes.category_of_longest_run.Goals as goal

pub returns-then-is_empty : goal.returns-then-is_empty
returns-then-is_empty c =
    let empty : length c.args.cells.now ≡ 0 = grind (arith, common_steps) in
    λ xs moved. c.null.ensures ∙ none_of c.args.cells.now xs empty moved

pub loop-i-init : goal.loop-i-init
loop-i-init c =
    let some : 0 < length c.args.cells.now = grind (arith, common_steps) in
    record {
      longest = rw c.argument_cell_at_column-best.ensures (longest_first c.args.cells.now some c.requires.known);
      bound = omega arith;
    }

pub loop-i-preserved : goal.loop-i-preserved
loop-i-preserved c =
    let kept = kept_within (cell_eq c.argument_cell_at_column-cell.result c.argument_cell_at_column.result) c.loop-i.run
    c.length_of_continued_run-run.result
    c.length_of_continued_run-run.ensures in
    let bound = c.loop-i.invariant.bound in
    record {
      longest = rw (c.cell_of_longer_run-best.ensures, c.max-most.ensures)
          (longest_step c.args.cells.now c.loop-i.i c.loop-i.best c.loop-i.most c.loop-i.run
          (c.length_of_continued_run-run.result + 1) c.argument_cell_at_column-cell.result
          c.argument_cell_at_column.result
          c.loop-i.auto.i c.loop-i-test.true c.requires.known c.requires.sorted c.loop-i.invariant.longest
          c.argument_cell_at_column-cell.ensures c.argument_cell_at_column.ensures
          (ap (λ n. n + 1) c.length_of_continued_run-run.ensures));
      bound = omega (arith, kept, bound);
    }

pub returns : goal.returns
returns c = λ xs moved. longest_all c.args.cells.now xs c.loop-i.i c.loop-i.best c.loop-i.most c.loop-i.run
    c.loop-i-test.false c.requires.known c.loop-i.invariant.longest moved
