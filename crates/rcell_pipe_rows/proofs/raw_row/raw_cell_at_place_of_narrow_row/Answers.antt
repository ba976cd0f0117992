use Rattle.std.proofs.Common.{◌≡◌, Bool, None, w32, to_z, of_z, sym, ap, ◌∙◌, rules}
use Rattle.std.specs.Prelude.{if◌then◌else◌}
use Rattle.std.specs.Ordering.{int_eq}
use Rattle.rcell_pipe_rows.specs.Numbers.{raw_number_at_place}
use Rattle.rcell_pipe_rows.specs.RawRows.{cell_of_raw_number}
use Rattle.rcell_pipe_rows.proofs.raw_row.raw_cell_at_place_of_narrow_row.Goals as goal

pub returns-then-not-is_hidden_by_mask : goal.returns-then-not-is_hidden_by_mask
returns-then-not-is_hidden_by_mask c = λ nodata is.
    let seen = sym c.is_hidden_by_mask.ensures ∙ c.if-not-is_hidden_by_mask.true in
    let cell = cell_of_raw_number nodata (raw_number_at_place c.args.kind c.args.bytes.now c.args.place) in
    let same : to_z w32 (of_z w32 c.args.null) ≡ c.args.null = search rules in
    let number : to_z w32 (of_z w32 c.raw_number_at_place_as_i32.result)
    ≡ c.raw_number_at_place_as_i32.result = search rules in
    c.cell_of_i32_number-cell.ensures nodata (λ n category. ap (int_eq n) same ∙ is n category)
    ∙ ap (cell_of_raw_number nodata) (number ∙ c.raw_number_at_place_as_i32.ensures)
    ∙ sym (ap (λ (h : Bool). if h then None else cell) seen)
