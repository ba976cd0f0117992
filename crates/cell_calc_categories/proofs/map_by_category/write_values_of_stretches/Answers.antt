use Rattle.std.proofs.Common.{◌≡◌, ◌<◌, ◌+◌, ℕ, List, ◌∷◌, ◌++◌, [], length, take, take_all, map, replicate}
use Rattle.std.proofs.Common.{append-nil, None, sym, ap, subst, ◌∙◌, arith}
use Rattle.std.specs.Prelude.{All}
use Rattle.std.proofs.lemmas.List.Elements.{All-head, All-tail, All-same}
use Rattle.cell_core.specs.Runs.{RunValue, cells_of_runs}
use Rattle.cell_calc.specs.RowValues.{at}
use Rattle.cell_calc_categories.specs.parts.CategorySpans.{IsCellInCategoryInterval}
use Rattle.cell_calc.proofs.Places.{read}
use Rattle.cell_calc_categories.proofs.Categories.{in_table, first_within, rest_within, room, width_more}
use Rattle.cell_calc_categories.proofs.Categories.{stretch_more}
use Rattle.cell_calc_categories.proofs.map_by_category.write_values_of_stretches.Goals as goal

some_cells : {cell : _} {n : ℕ} {old rest : List RunValue} → old ≡ (cell, n) ∷ rest
    → All (λ (run : RunValue). 0 < run.1) old → 0 < n
some_cells {cell} {n} {old} {rest} next all = All-head (λ (run : RunValue). 0 < run.1) (cell, n) rest (rw next at all)

pub loop-cell-init : goal.loop-cell-init
loop-cell-init c =
    let same = c.into_iter-cell-iterator.ensures.into_iter_gives in
    record {
      whole = λ f is. ap (λ l. map f (cells_of_runs l)) same;
      within = omega (arith, ap (λ l. length (cells_of_runs l)) same, c.requires.width);
      cells = rw same c.requires.within;
      some = rw same c.requires.some;
    }

pub place-requires-clause-within : goal.place-requires-clause-within
place-requires-clause-within c =
    first_within c.args.span c.in-Some.cell c.in-Some.count c.loop-cell.cell-iterator c.next.new.self
    c.in-Some.ensures.steps
    (some_cells c.in-Some.ensures.steps c.loop-cell.invariant.some) c.loop-cell.invariant.cells

pub bounds-table-place : goal.bounds-table-place
bounds-table-place c =
    in_table c.args.span c.place.result (length c.args.table.now) c.in-Some.cell c.requires.size
    (first_within c.args.span c.in-Some.cell c.in-Some.count c.loop-cell.cell-iterator c.next.new.self
    c.in-Some.ensures.steps
    (some_cells c.in-Some.ensures.steps c.loop-cell.invariant.some) c.loop-cell.invariant.cells) c.place.ensures

pub write_run_to_cells-requires : goal.write_run_to_cells-requires
write_run_to_cells-requires c =
    room c.loop-cell.cells c.loop-cell.cells c.loop-cell.at c.in-Some.count c.in-Some.cell c.in-Some.cell
    c.loop-cell.cell-iterator c.next.new.self
    c.in-Some.ensures.steps c.loop-cell.invariant.within

pub loop-cell-preserved : goal.loop-cell-preserved
loop-cell-preserved c =
    let row = c.loop-cell.cells in
    let new = c.write_run_to_cells.new.cells in
    let from = c.loop-cell.at in
    let n = c.in-Some.count in
    let x = c.in-Some.cell in
    let old = c.loop-cell.cell-iterator in
    let rest = c.next.new.self in
    let steps = c.in-Some.ensures.steps in
    let held = c.loop-cell.invariant in
    let table = c.args.table.now in
    let value = c.index-table-place.result in
    let within = first_within c.args.span x n old rest steps (some_cells steps held.some) held.cells in
    let there = in_table c.args.span c.place.result (length table) x c.requires.size within c.place.ensures in
    let found : value ≡ at table c.place.result = read table c.place.result value there c.index-table-place.is in
    record {
      whole = λ f is. stretch_more row new from n x value old rest steps held.within c.write_run_to_cells.ensures f _
          (found ∙ is x c.place.result within c.place.ensures) (held.whole f is);
      within = width_more row new from n x value old rest steps held.within c.write_run_to_cells.ensures;
      cells = rest_within c.args.span x n old rest steps held.cells;
      some = All-tail (λ (run : RunValue). 0 < run.1) (x, n) rest (rw steps at held.some);
    }

pub returns : goal.returns
returns c = λ f is.
    let row = c.loop-cell.cells in
    let none = c.in-None.ensures.steps.0 in
    let end : length row ≡ c.loop-cell.at = sym c.loop-cell.invariant.within
    ∙ ap (λ l. c.loop-cell.at + length (cells_of_runs l)) none ∙ omega arith in
    sym (take_all c.loop-cell.at row (omega (arith, end))) ∙ sym (append-nil (take c.loop-cell.at row))
    ∙ ap (λ l. take c.loop-cell.at row ++ map f (cells_of_runs l)) (sym none) ∙ c.loop-cell.invariant.whole f is
