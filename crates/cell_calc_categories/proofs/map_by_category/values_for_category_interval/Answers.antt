use Rattle.std.proofs.Common.{◌≡◌, ◌≤◌, ◌+◌, ◌++◌, length, length-append, map, ap, ◌∙◌, arith, sym}
use Rattle.std.proofs.lemmas.List.{length-map}
use Rattle.cell_calc_categories.specs.parts.CategorySpans.{IsTableSizeOfInterval}
use Rattle.cell_calc.specs.ByCategory.{formula_value_for_first_map_cell}
use Rattle.cell_calc_categories.proofs.Categories.{in_table, table_more}
use Rattle.cell_calc_categories.proofs.map_by_category.values_for_category_interval.Goals as goal

pub parts-preserved : goal.parts-preserved
parts-preserved c =
    let f = formula_value_for_first_map_cell c.args.region c.args.bound.now in
    let old = c.parts.table.items in
    let cells = c.in_ok-cells.cells.items in
    let from = c.parts.from in
    let width = c.min-width.result in
    let held = c.parts.invariant in
    let is : c.extend_from_slice.new.self.items ≡ old ++ map f cells =
    c.in_ok-extend_from_slice.ensures.items ∙ ap (λ l. old ++ l) (c.as_slice.ensures.value
    ∙ c.in_ok-values.ensures) in
    record {
      within = omega (arith, held.within, c.min-width.ensures);
      count = ap (λ l. length l) is ∙ length-append old (map f cells)
          ∙ omega (arith, held.count, length-map cells f, c.in_ok-cells.ensures.width);
      each = table_more f c.args.span old c.extend_from_slice.new.self.items cells from width is held.count
          c.in_ok-cells.ensures.width held.each c.in_ok-cells.ensures.at c.in_ok-cells.ensures.within;
    }

pub returns-clause-size : goal.returns-clause-size
returns-clause-size c =
    let all : length c.parts.table.items ≡ c.size-size.result = omega
    (arith, c.parts.invariant.count, c.parts.invariant.within, c.parts-test.false) in
    rw all c.size-size.ensures

pub returns-clause-table : goal.returns-clause-table
returns-clause-table c = λ x p within place.
    let lt = in_table c.args.span p c.size-size.result x c.size-size.ensures within place in
    c.parts.invariant.each x p (omega (arith, lt, c.parts-test.false)) within place
