use Rattle.std.proofs.Common.{sym, ap, ◌∙◌, map}
use Rattle.cell_calc_language.specs.CellOperators.{greater_than_as_cell, greatest_cell}
use Rattle.cell_calc.specs.RowValues.{cells_at_column}
use Rattle.cell_calc_modes.proofs.Columns.{item_width, other_width, no_items, fold_step, greatest_all}
use Rattle.cell_calc.proofs.Places.{within_same}
use Rattle.cell_calc.proofs.calls.write_greatest_of_arguments.Goals as goal

pub returns-in_default : goal.returns-in_default
returns-in_default c =
    let none = no_items c.args.arguments.now c.in_default.len_below in
    λ k h. c.fill_row_with_cell.ensures k h ∙ c.null.ensures ∙ sym (ap (λ l. greatest_cell
    (cells_at_column k (map (λ v. v.items) l))) none)

pub copy_from_slice-requires : goal.copy_from_slice-requires
copy_from_slice-requires c =
    sym (item_width (λ v. v.items) c.args.arguments.now _ 0 c.first-item.result c.as_slice.result.now c.requires
    c.in-len1-up.len_at_least c.first-item.is c.as_slice.ensures.value)

pub replace_by_larger_cells-requires : goal.replace_by_larger_cells-requires
replace_by_larger_cells-requires c = record {
  width = other_width (λ v. v.items) c.args.arguments.now _ c.loop-other.other-index c.other-item.result
      c.as_slice-in-loop-other.result.now c.requires c.loop-other-test.true c.other-item.is
      c.as_slice-in-loop-other.ensures.value
      ∙ sym (c.loop-other.auto.row ∙ c.copy_from_slice.ensures.len);
}

pub loop-other-preserved : goal.loop-other-preserved
loop-other-preserved c =
    let same = sym c.replace_by_larger_cells.auto.row in
    record {
      done = λ k h.
          let here = within_same c.loop-other.row c.replace_by_larger_cells.new.row k same h in
          fold_step (λ v. v.items) greater_than_as_cell _ _ c.loop-other.other-index k c.other-item.result _ _ _
          c.loop-other-test.true c.other-item.is c.as_slice-in-loop-other.ensures.value
          (c.loop-other.invariant.done k here) (c.replace_by_larger_cells.ensures k here);
    }

pub returns : goal.returns
returns c = λ k h.
    let same = c.loop-other.auto.row ∙ c.copy_from_slice.ensures.len in
    let here = within_same c.loop-other.row c.args.row.now k same h in
    greatest_all (λ v. v.items) _ c.loop-other.other-index k c.first-item.result _ _ c.in-len1-up.len_at_least
    c.first-item.is
    (c.copy_from_slice.ensures.after ∙ c.as_slice.ensures.value) c.loop-other-test.false
    (c.loop-other.invariant.done k here)
