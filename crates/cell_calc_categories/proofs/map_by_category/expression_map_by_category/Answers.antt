use Rattle.std.proofs.Common.{◌≡◌, ap, ◌∙◌}
use Rattle.cell_calc.specs.ByCategory.{formula_value_for_first_map_cell}
use Rattle.cell_calc_categories.specs.parts.ValueTables.{IsTableOfFunctionValues, AreValueBytesOfByteCells}
use Rattle.cell_calc_categories.specs.parts.ValueTables.{rows_with_function_applied}
use Rattle.cell_calc_categories.proofs.MapLemmas.{values_of_map, if_some}
use Rattle.cell_calc_categories.proofs.map_by_category.expression_map_by_category.Goals as goal

pub returns : goal.returns
returns c =
    let f = c.args.bound.now in
    let given = c.args.given.now in
    let value = formula_value_for_first_map_cell c.region-region.result f in
    let made = c.in_ok-made.ensures in
    let span = c.in-Some.span in
    let is = c.is_faster_by_category_lookup.ensures c.if-not-is_faster_by_category_lookup.false in
    let table : IsTableOfFunctionValues value span c.as_slice-values.result.now =
    rw c.as_slice-values.ensures.value c.in_ok-table.ensures.table in
    let small =
    if_some _ (λ b. AreValueBytesOfByteCells value b.items) c.in_ok-small.small
    (λ b each. each value table) c.in_ok-small.ensures.bytes in
    let rows = made.rows value table small
    ∙ ap (λ r. rows_with_function_applied (formula_value_for_first_map_cell r f) given.rows)
    c.region-region.ensures.value in
    values_of_map f given c.in_ok-made.made c.region-region.ensures.filled made.region made.labels rows is
