use Rattle.std.proofs.Common.{rules, arith, ◌≡◌, ◌<◌, ◌+◌, ◌+ℤ◌, pos, length, ap, ◌∙◌, None, refl, w32, FitsSigned}
use Rattle.std.proofs.lemmas.Int.{to_z-of_z}
use Rattle.std.proofs.lemmas.Result.{IfOk-from_err}
use Rattle.cell_calc_language.specs.Offsets.{item_at_integer_or_default}
use Rattle.cell_calc.proofs.Written.{at_written, changed_width}
use Rattle.cell_calc.proofs.operand.writable_row_of_operand.Goals as goal

pub returns-in_err-row-in-Number : goal.returns-in_err-row-in-Number
returns-in_err-row-in-Number c = IfOk-from_err c.from_residual.result _ c.from_residual.ensures.0

pub returns-in_err-row-in-Map : goal.returns-in_err-row-in-Map
returns-in_err-row-in-Map c =
    IfOk-from_err c.from_residual-in_err-row-in-Map.result _ c.from_residual-in_err-row-in-Map.ensures.0

pub row_below_centre_of_window-source-requires : goal.row_below_centre_of_window-source-requires
row_below_centre_of_window-source-requires c =
    let fits : FitsSigned w32 c.in-Map.down = search rules in
    let ready = rw c.in-Map.is at c.requires.ready in
    rw (to_z-of_z w32 c.in-Map.down fits) ready

pub returns-in-Row : goal.returns-in-Row
returns-in-Row c = record { width = rw c.in-Row.is at c.requires.ready; each = rw c.in-Row.is (λ k h. refl) }

pub returns-in_ok-row-in-Number : goal.returns-in_ok-row-in-Number
returns-in_ok-row-in-Number c =
    let row = c.in_ok-row-in-Number.row in
    let all : row.len ≡ length row.items = search rules in
    let start = ap (λ l. length l) c.as_mut_slice.ensures.value in
    record {
      width = changed_width row.len c.args.strip.now.width row.items c.as_mut_slice.result.now
          c.fill_row_with_cell.new.row all
          c.as_mut_slice.ensures.value c.fill_row_with_cell.auto.row c.in_ok-row-in-Number.ensures;
      each = rw c.in-Number.is (λ k h.
          let here : k < length c.as_mut_slice.result.now = omega (arith, start, c.in_ok-row-in-Number.ensures, h) in
          at_written row.len c.fill_row_with_cell.new.row row.items k all (c.fill_row_with_cell.auto.row ∙ start)
          ∙ c.fill_row_with_cell.ensures k here
          ∙ c.number.ensures);
    }

pub returns-in_ok-row-in-Map : goal.returns-in_ok-row-in-Map
returns-in_ok-row-in-Map c =
    let row = c.in_ok-row-in-Map.row in
    let fits : FitsSigned w32 c.in-Map.down = search rules in
    let fits_right : FitsSigned w32 c.in-Map.right = search rules in
    let all : row.len ≡ length row.items = search rules in
    let start = ap (λ l. length l) c.as_mut_slice-in-Map.ensures.value in
    let source = rw (to_z-of_z w32 c.in-Map.down fits) at c.row_below_centre_of_window-source.ensures in
    record {
      width = changed_width row.len c.args.strip.now.width row.items c.as_mut_slice-in-Map.result.now c.copy_shifted_cells.new.row all
          c.as_mut_slice-in-Map.ensures.value c.copy_shifted_cells.auto.row c.in_ok-row-in-Map.ensures;
      each = rw c.in-Map.is (λ k h.
          let here : k < length c.as_mut_slice-in-Map.result.now = omega (arith, start, c.in_ok-row-in-Map.ensures, h) in
          let each = rw (to_z-of_z w32 c.in-Map.right fits_right) at (c.copy_shifted_cells.ensures k here) in
          at_written row.len c.copy_shifted_cells.new.row row.items k all (c.copy_shifted_cells.auto.row ∙ start) ∙ each
          ∙ ap (λ l. item_at_integer_or_default None l (pos (c.args.strip.now.from + k) +ℤ c.in-Map.right)) source);
    }
