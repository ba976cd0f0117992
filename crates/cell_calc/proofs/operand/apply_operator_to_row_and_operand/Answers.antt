use Rattle.std.proofs.Common.{rules, ◌<◌, ◌≡◌, ◌+◌, ◌+ℤ◌, ℕ, pos, ap, ◌∙◌, None, w32, FitsSigned}
use Rattle.std.proofs.lemmas.Int.{to_z-of_z}
use Rattle.cell_calc_language.specs.Applied.{operator_value}
use Rattle.cell_calc_language.specs.Offsets.{item_at_integer_or_default}
use Rattle.cell_calc.specs.RowValues.{at}
use Rattle.cell_calc.proofs.operand.apply_operator_to_row_and_operand.Goals as goal

-- a column of a strip is within a row of the same width
in_row : (k n width : ℕ) → n ≡ width → k < width → k < n
in_row k n width e lt = rw e lt

pub returns-in-Number : goal.returns-in-Number
returns-in-Number c = rw c.in-Number.is (λ k h.
    c.apply_operator_with_cell.ensures k (in_row k _ _ c.requires.width h)
    ∙ ap (λ v. operator_value c.args.operator (at c.args.row.now k) v) c.number.ensures)

pub returns-in-Map : goal.returns-in-Map
returns-in-Map c =
    let fits : FitsSigned w32 c.in-Map.down = search rules in
    let fits_right : FitsSigned w32 c.in-Map.right = search rules in
    let source = rw (to_z-of_z w32 c.in-Map.down fits) at c.row_below_centre_of_window-source.ensures in
    rw c.in-Map.is (λ k h.
    let each = rw (to_z-of_z w32 c.in-Map.right fits_right) at
    (c.apply_operator_to_shifted_row.ensures k (in_row k _ _ c.requires.width h)) in
    each
    ∙ ap (λ l. operator_value c.args.operator (at c.args.row.now k)
    (item_at_integer_or_default None l (pos (c.args.strip.now.from + k) +ℤ c.in-Map.right))) source)

pub returns-in_ok-push-in-Row : goal.returns-in_ok-push-in-Row
returns-in_ok-push-in-Row c = rw c.in-Row.is (λ k h.
    c.apply_operator_to_rows.ensures k (in_row k _ _ c.requires.width h)
    ∙ ap (λ l. operator_value c.args.operator (at c.args.row.now k) (at l k)) c.as_slice.ensures.value)
