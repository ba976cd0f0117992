use Rattle.std.proofs.Common.{◌-◌, sym, ap, ◌∙◌, length}
use Rattle.cell_calc.specs.RowValues.{at}
use Rattle.cell_calc_modes.proofs.Columns.{item_width, last_before, last_item}
use Rattle.cell_calc.proofs.calls.copy_last_argument.Goals as goal

pub copy_from_slice-requires : goal.copy_from_slice-requires
copy_from_slice-requires c =
    let args = c.args.arguments.now in
    sym (item_width (λ v. v.items) args _ (length args - 1) c.x-item.result c.as_slice.result.now c.requires
    (last_before (length args) c.in-len1-up.len_at_least) c.x-item.is c.as_slice.ensures.value)

pub returns-in-len1-up : goal.returns-in-len1-up
returns-in-len1-up c = λ k h.
    ap (λ l. at l k) (c.copy_from_slice.ensures.after ∙ c.as_slice.ensures.value)
    ∙ sym (last_item (λ v. v.items) c.args.arguments.now k c.x-item.result c.in-len1-up.len_at_least c.x-item.is)
