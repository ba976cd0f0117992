use Rattle.std.proofs.Common.{sym, ◌∙◌}
use Rattle.cell_core_devices.proofs.BlockLemmas.{appends_then}
use Rattle.cell_stats.proofs.LineLemmas.{cell_and_label_text-with, cell_and_label_text-without}
use Rattle.cell_stats.proofs.printing.write_cell_and_label.Goals as goal

pub returns-then-not-labels : goal.returns-then-not-labels
returns-then-not-labels g c =
    let off = sym c.labels.ensures ∙ c.if-not-labels.true in
    rw (← cell_and_label_text-without c.args.format.now c.args.shelf.now.maps c.args.place c.args.cell off)
    (rw c.null_text.ensures at c.write_cell.ensures)

pub returns : goal.returns
returns g c =
    let on = sym c.labels.ensures ∙ c.if-not-labels.false in
    let both = appends_then c.write_cell.ensures c.write_separator_and_field.ensures in
    rw (← cell_and_label_text-with c.args.format.now c.args.shelf.now.maps c.args.place c.args.cell on)
    (rw (c.null_text.ensures, c.separator.ensures, c.label_of_cell.ensures) at both)
