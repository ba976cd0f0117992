use Rattle.std.proofs.Common.{rules, ◌<◌, ◌≡◌, ◌+◌, ◌+ℤ◌, ℕ, pos, sym, ap, ◌∙◌, None, w32, FitsSigned}
use Rattle.std.proofs.lemmas.Int.{to_z-of_z}
use Rattle.std.proofs.lemmas.Result.{IfOk-from_err}
use Rattle.cell_calc_language.specs.CellOperators.{cell_chosen_by_condition}
use Rattle.cell_calc_language.specs.Offsets.{item_at_integer_or_default}
use Rattle.cell_calc.specs.RowValues.{at}
use Rattle.cell_calc.proofs.Operands.{on_ok}
use Rattle.cell_calc.proofs.operand.copy_operand_where_true.Goals as goal

-- a column of a strip is within a row of the same width
in_row : (k n width : ℕ) → n ≡ width → k < width → k < n
in_row k n width e lt = rw e lt

pub replace_with_cell_where_true-requires : goal.replace_with_cell_where_true-requires
replace_with_cell_where_true-requires c = record { width = c.requires.conditions ∙ sym c.requires.width }

pub replace_cells_where_true-requires-clause-width_conditions :
    goal.replace_cells_where_true-requires-clause-width_conditions
replace_cells_where_true-requires-clause-width_conditions c = c.requires.conditions ∙ sym c.requires.width

pub replace_cells_where_true-requires-clause-width_yes : goal.replace_cells_where_true-requires-clause-width_yes
replace_cells_where_true-requires-clause-width_yes c = c.in-Some.ensures.width ∙ sym c.requires.width

pub writable_row_of_operand-requires-clause-strip : goal.writable_row_of_operand-requires-clause-strip
writable_row_of_operand-requires-clause-strip c = c.requires.strip

pub copy_row_where_true-requires-clause-width : goal.copy_row_where_true-requires-clause-width
copy_row_where_true-requires-clause-width c = c.in_ok-others-in-Map.ensures.width ∙ sym c.requires.width

pub copy_row_where_true-requires-clause-conditions : goal.copy_row_where_true-requires-clause-conditions
copy_row_where_true-requires-clause-conditions c = c.requires.conditions ∙ sym c.requires.width

pub copy_row_where_true-requires-in-Row-clause-width : goal.copy_row_where_true-requires-in-Row-clause-width
copy_row_where_true-requires-in-Row-clause-width c =
    let wide = rw c.in-Row.is at c.requires.yes in
    wide ∙ sym c.requires.width

pub copy_row_where_true-requires-in-Row-clause-conditions : goal.copy_row_where_true-requires-in-Row-clause-conditions
copy_row_where_true-requires-in-Row-clause-conditions c = c.requires.conditions ∙ sym c.requires.width

pub returns-in_err-others-in-Map : goal.returns-in_err-others-in-Map
returns-in_err-others-in-Map c = IfOk-from_err c.from_residual.result _ c.from_residual.ensures.0

pub returns-in-Number : goal.returns-in-Number
returns-in-Number c = rw c.in-Number.is (λ k h.
    c.replace_with_cell_where_true.ensures k (in_row k _ _ c.requires.width h)
    ∙ ap (λ v. cell_chosen_by_condition (at c.args.conditions.now k) v (at c.args.row.now k)) c.number.ensures)

pub returns-in-Some : goal.returns-in-Some
returns-in-Some c =
    let fits : FitsSigned w32 c.in-Map.down = search rules in
    let fits_right : FitsSigned w32 c.in-Map.right = search rules in
    let source = rw (to_z-of_z w32 c.in-Map.down fits) at c.row_below_centre_of_window-source.ensures in
    rw c.in-Map.is (λ k h.
    let part = rw (to_z-of_z w32 c.in-Map.right fits_right) at (c.in-Some.ensures.each k h) in
    c.replace_cells_where_true.ensures k (in_row k _ _ c.requires.width h)
    ∙ ap (λ v. cell_chosen_by_condition (at c.args.conditions.now k) v (at c.args.row.now k))
    (part ∙ ap (λ l. item_at_integer_or_default None l (pos (c.args.strip.now.from + k) +ℤ c.in-Map.right)) source))

pub returns-in_ok-others-in-Map : goal.returns-in_ok-others-in-Map
returns-in_ok-others-in-Map c =
    let fits : FitsSigned w32 c.in-Map.down = search rules in
    let fits_right : FitsSigned w32 c.in-Map.right = search rules in
    let others = rw (to_z-of_z w32 c.in-Map.down fits, to_z-of_z w32 c.in-Map.right fits_right) at
    c.in_ok-others-in-Map.ensures.each in
    rw c.in-Map.is (on_ok c.copy_row_where_true.result (λ k h. c.copy_row_where_true.ensures k
    (in_row k _ _ c.requires.width h)
    ∙ ap (λ v. cell_chosen_by_condition (at c.args.conditions.now k) v (at c.args.row.now k)) (others k h)))

pub returns-in-Row : goal.returns-in-Row
returns-in-Row c = rw c.in-Row.is (on_ok c.copy_row_where_true-in-Row.result
    (λ k h. c.copy_row_where_true-in-Row.ensures k (in_row k _ _ c.requires.width h)))
