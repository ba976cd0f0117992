use Rattle.std.proofs.Common.{◌≡◌, ◌∙◌, Some, sym, rules, to_z, of_z, w32}
use Rattle.std.proofs.lemmas.Int.{to_z-of_z}
use Rattle.cell_core.specs.Text.{cell_text}
use Rattle.cell_ascii_writer.specs.Fields.{IsFieldOfSpaceAndText}
use Rattle.cell_ascii_writer.proofs.RunWritingLemmas.{times_cells}
use Rattle.cell_ascii_writer.proofs.cells_in_line.put_run_into_line.Goals.{then-is_from_0_to_999999, else-is_from_0_to_999999+in-Some-minus999999-to-9999999}
use Rattle.cell_ascii_writer.proofs.cells_in_line.put_run_into_line.Goals as goal

pub returns-clause-text : goal.returns-clause-text
returns-clause-text c =
    let null = c.args.fields.now in
    let category = c.in-Some.category in
    let is : c.args.cell ≡ Some category = sym c.get.ensures.value ∙ c.in-Some.is in
    let same : to_z w32 (of_z w32 category) ≡ category = to_z-of_z w32 category (search rules) in
    let holds : IsFieldOfSpaceAndText (cell_text null c.args.cell) c.if-is_from_0_to_999999.field =
    elim c.if-is_from_0_to_999999.branch [
      | then-is_from_0_to_999999 w ↦ rw (is, w.field-is) (rw same at w.of_number-field.ensures)
      | else-is_from_0_to_999999+in-Some-minus999999-to-9999999 w ↦ rw (is, w.field-is) (rw same at w.field_of_short_category-field.ensures)
    ] in
    rw (← times_cells null c.args.count c.args.cell, ← holds.bytes) c.put_field_repeatedly.ensures.text
