use Rattle.std.proofs.Common.{◌∙◌, ap, Some, pos}
use Rattle.std.proofs.lemmas.Result.{IfOk-from_err}
use Rattle.cell_calc.proofs.calls.write_call_values.Goals as goal

pub write_if_call_values-requires : goal.write_if_call_values-requires
write_if_call_values-requires c = c.requires.widths

pub write_null_flags-requires : goal.write_null_flags-requires
write_null_flags-requires c = c.requires.widths

pub write_absolute_values-requires : goal.write_absolute_values-requires
write_absolute_values-requires c = c.requires.widths

pub least-requires : goal.least-requires
least-requires c = c.requires.widths

pub write_greatest_of_arguments-requires : goal.write_greatest_of_arguments-requires
write_greatest_of_arguments-requires c = c.requires.widths

pub mode-requires : goal.mode-requires
mode-requires c = c.requires.widths

pub copy_last_argument-requires : goal.copy_last_argument-requires
copy_last_argument-requires c = c.requires.widths

pub write_least_non_null_arguments-requires : goal.write_least_non_null_arguments-requires
write_least_non_null_arguments-requires c = c.requires.widths

pub write_greatest_non_null_arguments-requires : goal.write_greatest_non_null_arguments-requires
write_greatest_non_null_arguments-requires c = c.requires.widths

pub write_modes_ignoring_null-requires : goal.write_modes_ignoring_null-requires
write_modes_ignoring_null-requires c = c.requires.widths

pub returns-in_err-mode-in-Mode : goal.returns-in_err-mode-in-Mode
returns-in_err-mode-in-Mode c = IfOk-from_err c.from_residual.result _ c.from_residual.ensures.0

pub returns-in_err-write_modes_ignoring_null-in-KnownMode : goal.returns-in_err-write_modes_ignoring_null-in-KnownMode
returns-in_err-write_modes_ignoring_null-in-KnownMode c =
    let residual = c.from_residual-in_err-write_modes_ignoring_null-in-KnownMode in
    IfOk-from_err residual.result _ residual.ensures.0

pub returns-in-Row : goal.returns-in-Row
returns-in-Row c = rw c.in-Row.is (λ k h. c.fill_row_with_cell-in-Row.ensures k h ∙ c.number.ensures)

pub returns-in-RowCount : goal.returns-in-RowCount
returns-in-RowCount c =
    let cell = c.number-in-RowCount.ensures ∙ ap (λ n. Some (pos n)) c.rows-count.ensures.value in
    rw c.in-RowCount.is (λ k h. c.fill_row_with_cell-in-RowCount.ensures k h ∙ cell)

pub returns-in-ColumnCount : goal.returns-in-ColumnCount
returns-in-ColumnCount c =
    let cell = c.number-in-ColumnCount.ensures ∙ ap (λ n. Some (pos n)) c.cols-width.ensures.value in
    rw c.in-ColumnCount.is (λ k h. c.fill_row_with_cell-in-ColumnCount.ensures k h ∙ cell)

pub returns-in_ok-write_modes_ignoring_null-in-KnownMode : goal.returns-in_ok-write_modes_ignoring_null-in-KnownMode
returns-in_ok-write_modes_ignoring_null-in-KnownMode c = rw c.in-KnownMode.is
    c.in_ok-write_modes_ignoring_null-in-KnownMode.ensures

pub returns-in-If : goal.returns-in-If
returns-in-If c = rw c.in-If.is c.write_if_call_values.ensures

pub returns-in-IsNull : goal.returns-in-IsNull
returns-in-IsNull c = rw c.in-IsNull.is c.write_null_flags.ensures

pub returns-in-Null : goal.returns-in-Null
returns-in-Null c = rw c.in-Null.is (λ k h. c.fill_row_with_cell.ensures k h ∙ c.null.ensures)

pub returns-in-Abs : goal.returns-in-Abs
returns-in-Abs c = rw c.in-Abs.is c.write_absolute_values.ensures

pub returns-in-Min : goal.returns-in-Min
returns-in-Min c = rw c.in-Min.is c.least.ensures

pub returns-in-Max : goal.returns-in-Max
returns-in-Max c = rw c.in-Max.is c.write_greatest_of_arguments.ensures

pub returns-in-Column : goal.returns-in-Column
returns-in-Column c = rw c.in-Column.is c.number-in-Column.ensures

pub returns-in-Eval : goal.returns-in-Eval
returns-in-Eval c = rw c.in-Eval.is c.copy_last_argument.ensures

pub returns-in-KnownMin : goal.returns-in-KnownMin
returns-in-KnownMin c = rw c.in-KnownMin.is c.write_least_non_null_arguments.ensures

pub returns-in-KnownMax : goal.returns-in-KnownMax
returns-in-KnownMax c = rw c.in-KnownMax.is c.write_greatest_non_null_arguments.ensures

pub returns-in_ok-mode-in-Mode : goal.returns-in_ok-mode-in-Mode
returns-in_ok-mode-in-Mode c = rw c.in-Mode.is c.in_ok-mode-in-Mode.ensures
