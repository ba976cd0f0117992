use Rattle.std.proofs.Common.{◌≡◌, ◌<◌, length, None, sym, ap, subst, ◌∙◌}
use Rattle.cell_core.specs.Grid.{CellValue}
use Rattle.cell_calc.specs.RowValues.{at}
use Rattle.cell_calc_categories.specs.parts.CategorySpans.{IsCellInCategoryInterval}
use Rattle.cell_calc_categories.specs.parts.ValueTables.{IsTableOfFunctionValues}
use Rattle.cell_calc.proofs.Places.{within_same, before_end, read, read_old, one_more, others_stay}
use Rattle.cell_calc.proofs.CategoryValues.{map_of_each}
use Rattle.cell_calc_categories.proofs.Categories.{in_table}
use Rattle.cell_calc_categories.proofs.map_by_category.replace_cells_by_table_values.Goals as goal

pub place-requires-clause-within : goal.place-requires-clause-within
place-requires-clause-within c =
    let old = c.args.cells.now in
    let i = c.loop-i.i in
    let lt = within_same c.loop-i.cells old i c.loop-i.auto.cells c.loop-i-test.true in
    let a = read_old c.loop-i.cells old i c.index-cells-i.result lt c.index-cells-i.is c.loop-i.invariant.rest in
    subst (IsCellInCategoryInterval c.args.span) (sym a) (c.requires.within i None c.loop-i-test.true)

pub bounds-table-place : goal.bounds-table-place
bounds-table-place c =
    let old = c.args.cells.now in
    let i = c.loop-i.i in
    let lt = within_same c.loop-i.cells old i c.loop-i.auto.cells c.loop-i-test.true in
    let a = read_old c.loop-i.cells old i c.index-cells-i.result lt c.index-cells-i.is c.loop-i.invariant.rest in
    in_table c.args.span c.place.result (length c.args.table.now) c.index-cells-i.result c.requires.size
    (subst (IsCellInCategoryInterval c.args.span) (sym a) (c.requires.within i None c.loop-i-test.true)) c.place.ensures

pub loop-i-preserved : goal.loop-i-preserved
loop-i-preserved c =
    let old = c.args.cells.now in
    let row = c.loop-i.cells in
    let i = c.loop-i.i in
    let x = c.index-cells-i.result in
    let table = c.args.table.now in
    let value = c.index-table-place.result in
    let lt = within_same row old i c.loop-i.auto.cells c.loop-i-test.true in
    let a = read_old row old i x lt c.index-cells-i.is c.loop-i.invariant.rest in
    let within = subst (IsCellInCategoryInterval c.args.span) (sym a) (c.requires.within i None c.loop-i-test.true) in
    let there = in_table c.args.span c.place.result (length table) x c.requires.size within c.place.ensures in
    let found : value ≡ at table c.place.result = read table c.place.result value there c.index-table-place.is in
    record {
      done = λ f is. one_more (λ k v. v ≡ f (at old k)) row i value lt (c.loop-i.invariant.done f is)
          (found ∙ is x c.place.result within c.place.ensures ∙ ap f a);
      rest = others_stay row old i value c.loop-i.invariant.rest;
    }

pub returns : goal.returns
returns c = λ f is.
    map_of_each f c.loop-i.cells c.args.cells.now c.loop-i.auto.cells
    (λ k lt. c.loop-i.invariant.done f is k (before_end
    (length c.args.cells.now) c.loop-i.i k c.loop-i-test.false lt))
