use Rattle.std.proofs.Common.{None, ap, ◌∙◌, List, get_or, arith}
use Rattle.cell_core.specs.Grid.{CellValue}
use Rattle.cell_patches.proofs.ZoneLemmas.{counted_more, counted_row, room_for}
use Rattle.cell_patches.proofs.zones.add_row_of_cells_to_patches.Goals as goal

pub add_cell-requires-clause-room : goal.add_cell-requires-clause-room
add_cell-requires-clause-room g c =
    let row = c.requires.1.1.1.1.0 in
    let wide = c.requires.1.1.0 in
    let lt = c.loop-col-test.true in
    room_for g.maps c.args.row c.loop-col.col c.loop-col.counts c.loop-col.invariant.counted c.requires.1.1.1.0
    (omega arith) (omega arith)

pub loop-col-preserved : goal.loop-col-preserved
loop-col-preserved g c = record {
  counted = counted_more g.maps c.args.row c.loop-col.col c.loop-col.counts c.add_cell.new.self
      c.cell_in_column_or_null.result c.cell_in_column_or_null-in-loop-col.result c.loop-col.invariant.counted
      (c.cell_in_column_or_null.ensures ∙ ap (λ (xs : List CellValue). get_or xs c.loop-col.col None) c.requires.0)
      (c.cell_in_column_or_null-in-loop-col.ensures ∙ ap (λ (xs : List CellValue). get_or xs c.loop-col.col None)
      c.requires.1.0)
      c.in_ok-add_cell.ensures.more c.in_ok-add_cell.ensures.leads;
  long = c.in_ok-add_cell.ensures.long ∙ c.loop-col.invariant.long;
}

pub returns-clause-counted : goal.returns-clause-counted
returns-clause-counted g c =
    let wide = c.requires.1.1.0 in
    let past = c.loop-col-test.false in
    let end = c.loop-col.auto.col-end in
    counted_row g.maps c.args.row c.loop-col.col c.loop-col.counts c.loop-col.invariant.counted (omega arith)
