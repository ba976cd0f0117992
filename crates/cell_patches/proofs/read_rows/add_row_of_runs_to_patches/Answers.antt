use Rattle.std.proofs.Common.{◌≡◌, ◌∙◌, ◌+◌, ap, sym, arith, subst, length}
use Rattle.cell_core.specs.Grid.{cell_at}
use Rattle.cell_core.specs.Runs.{cells_of_runs}
use Rattle.cell_patches.specs.parts.Passes.{AreMeasuresOfPatchesUpToCell}
use Rattle.cell_patches.proofs.PassLemmas.{all_row}
use Rattle.cell_patches.proofs.RunLemmas.{count_more, cell_of_first, cell_of_others, some_in_first, some_in_others}
use Rattle.cell_patches.proofs.read_rows.add_row_of_runs_to_patches.Goals as goal

pub add_run-requires : goal.add_run-requires
add_run-requires g c =
    let number = c.in-Some.number in
    let n = c.in-Some.count in
    let old = c.loop-number.number-iterator in
    let rest = c.next.new.self in
    let steps = c.in-Some.ensures.steps in
    let held = c.loop-number.invariant in
    let wide = held.wide in
    let count = count_more number n old rest steps in (
      record {
        ready = c.requires.0;
        some = some_in_first number n old rest steps held.some;
        cols = omega arith;
        has_number = λ b lt. sym (held.cells b) ∙ cell_of_first number n old rest steps b lt;
      },
      held.read,
    )

pub loop-number-preserved : goal.loop-number-preserved
loop-number-preserved g c =
    let number = c.in-Some.number in
    let n = c.in-Some.count in
    let col = c.loop-number.col in
    let old = c.loop-number.number-iterator in
    let rest = c.next.new.self in
    let steps = c.in-Some.ensures.steps in
    let held = c.loop-number.invariant in
    let wide = held.wide in
    let count = count_more number n old rest steps in
    record {
      read = c.in_ok-add_run.ensures.read;
      cores = λ k. c.in_ok-add_run.ensures.cores k ∙ held.cores k;
      cells = λ b. cell_of_others number n old rest steps b ∙ held.cells (n + b)
          ∙ ap (cell_at g.tile.numbers c.args.row) (let e : col + (n + b) ≡ col + n + b = omega arith in e);
      wide = omega arith;
      some = some_in_others number n old rest steps held.some;
    }

pub returns-clause-read : goal.returns-clause-read
returns-clause-read g c =
    let wide = c.loop-number.invariant.wide in
    let end = ap (λ l. length (cells_of_runs l)) c.in-None.ensures.steps.0 in
    let same : c.loop-number.col ≡ g.tile.numbers.region.cols = omega arith in
    all_row g.tile c.args.row c.loop-number.patches.items c.requires.0.valid.cols
    (subst (λ x. AreMeasuresOfPatchesUpToCell g.tile c.args.row x c.loop-number.patches.items) same
    c.loop-number.invariant.read)
