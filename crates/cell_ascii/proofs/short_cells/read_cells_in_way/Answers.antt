use Rattle.std.proofs.Common.{take}
use Rattle.cell_ascii.proofs.WordLemmas.{in_line_read, lent_cells}
use Rattle.cell_ascii.proofs.short_cells.read_cells_in_way.Goals as goal

pub returns-in-Sought-clause-cells : goal.returns-in-Sought-clause-cells
returns-in-Sought-clause-cells c =
    let found = c.cells_in in
    lent_cells c.args.words.now c.args.buffered.now c.min-end.result found.new.row c.args.row.now found.result
    found.auto.row found.ensures.cells

pub returns-in-Digits-clause-cells : goal.returns-in-Digits-clause-cells
returns-in-Digits-clause-cells c =
    let found = c.cells_in-in-Digits in
    lent_cells c.args.words.now c.args.buffered.now c.min-end.result found.new.row c.args.row.now found.result
    found.auto.row found.ensures.cells

pub returns-in-Repeated-clause-cells : goal.returns-in-Repeated-clause-cells
returns-in-Repeated-clause-cells c =
    let found = c.read_cells_by_repetition-found in
    let row = c.args.row.now in
    let end = c.min-end.result in
    let line = rw c.header.ensures at found.ensures in
    let read = in_line_read c.args.words.now c.args.buffered.now (take end row) found.new.row found.result line in
    lent_cells c.args.words.now c.args.buffered.now end found.new.row row (found.result.0, found.result.1, 0)
    found.auto.row read

pub returns-in-Single-clause-cells : goal.returns-in-Single-clause-cells
returns-in-Single-clause-cells c =
    let found = c.read_cells_one_by_one-found in
    let row = c.args.row.now in
    let end = c.min-end.result in
    let line = rw c.header-in-Single.ensures at found.ensures in
    let read = in_line_read c.args.words.now c.args.buffered.now (take end row) found.new.row found.result line in
    lent_cells c.args.words.now c.args.buffered.now end found.new.row row (found.result.0, found.result.1, 0)
    found.auto.row read
