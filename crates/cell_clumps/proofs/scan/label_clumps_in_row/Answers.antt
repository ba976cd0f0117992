use Rattle.std.proofs.Common.{◌≡◌, ◌<◌, [], List, None, map, take, arith, refl, sym, ◌∙◌}
use Rattle.std.proofs.lemmas.List.{get_or-take, length-set, length-take-le}
use Rattle.std.proofs.lemmas.List.Elements.{All-set, All-take}
use Rattle.cell_clumps.specs.declared.near.LabelledCell.{LabelledCell}
use Rattle.cell_clumps.specs.Clumps.{cell_at_position}
use Rattle.cell_clumps.specs.parts.CellPlaces.{position_at_row_and_column}
use Rattle.cell_clumps.specs.parts.RunsOfLabels.{null_cell_without_label}
use Rattle.cell_clumps.proofs.LineLemmas.{copied, reading_near, reading_inside}
use Rattle.cell_clumps.proofs.RunLemmas.{line_kept, line_walked, walked_cell}
use Rattle.cell_clumps.proofs.scan.label_clumps_in_row.Goals as goal

pub loop-col-init : goal.loop-col-init
loop-col-init c = record {
  wide = c.requires.read.cells.is_line.wide;
  down = c.requires.down;
  most = omega arith;
  nulls = c.requires.nulls;
  walked = λ kept h. line_walked c.args.joining c.args.map.now kept _ _ c.args.row _
      c.neighbours_at_row_start-near.ensures.left
      c.neighbours_at_row_start-near.ensures.above h;
}

pub clump_label_for_cell-requires : goal.clump_label_for_cell-requires
clump_label_for_cell-requires c =
    let is = c.loop-col.invariant in
    let w = is.walked [] c.requires.read in
    let col_in : c.loop-col.col < c.args.map.now.region.cols = omega (arith, c.copy_row.auto.cells, c.requires.wide, c.loop-col-test.true) in
    record {
      down = is.down;
      inside = reading_inside c.args.joining c.args.map.now c.loop-col.table.items c.loop-col.line c.args.row c.loop-col.col c.loop-col.near w.reading col_in c.neighbours_one_column_on-near.result c.neighbours_one_column_on-near.ensures;
      short = omega (arith, c.requires.short, is.most, col_in);
    }

pub loop-col-preserved : goal.loop-col-preserved
loop-col-preserved c =
    let j = c.args.joining in
    let m = c.args.map.now in
    let r = c.args.row in
    let col = c.loop-col.col in
    let table = c.loop-col.table.items in
    let line = c.loop-col.line in
    let inv = c.loop-col.invariant in
    let after = c.neighbours_one_column_on-near.result in
    let moved = c.neighbours_one_column_on-near.ensures in
    let z : LabelledCell = record { cell = c.index-cells-col.result; label = c.in_ok-label.label } in
    let col_in : col < m.region.cols = omega (arith, c.copy_row.auto.cells, c.requires.wide, c.loop-col-test.true) in
    let here : c.index-cells-col.result ≡ cell_at_position m (position_at_row_and_column r col) = copied m r col c.copy_row.new.cells c.index-cells-col.result c.copy_row.ensures c.loop-col-test.true c.index-cells-col.is in
    record {
      wide = length-set line col z ∙ inv.wide;
      down = c.in_ok-label.ensures.down;
      most = omega (arith, c.in_ok-label.ensures.long, inv.most);
      nulls = All-set (λ (x : LabelledCell). x.cell ≡ None → x.label ≡ 4294967295) line col z c.in_ok-label.ensures.null inv.nulls;
      walked = λ kept h.
          let w = inv.walked kept h in
          let near = reading_near j m table line r col c.loop-col.near w.reading col_in after moved in
          let labels = w.reading.cells.labels in
          walked_cell j m kept table line r col c.loop-col.near w col_in after moved
          c.clump_label_for_cell.new.table.items z here
          (c.in_ok-label.ensures.read m r col labels here col_in w.reading.cells.count near w.reading.cells.has_read);
    }

pub returns : goal.returns
returns c =
    let is = c.loop-col.invariant in
    let m = c.args.map.now in
    let line : List LabelledCell = c.loop-col.line in
    let e : c.loop-col.col ≡ m.region.cols = omega (arith, c.copy_row.auto.cells, c.requires.wide, c.loop-col-test.false, c.loop-col.auto.col-end) in
    record {
      down = is.down;
      long = omega (arith, is.most, e);
      nulls = is.nulls;
      read = λ kept count h. line_kept c.args.joining m kept c.loop-col.table.items line c.args.row c.loop-col.col
          c.loop-col.near (map (λ (x : LabelledCell). x.label) (take m.region.cols line)) (take m.region.cols line)
          (is.walked kept h) e (λ k lt. sym (get_or-take m.region.cols line k null_cell_without_label lt))
          (let wide = is.wide in length-take-le m.region.cols line (omega arith)) count refl
          (All-take (λ (x : LabelledCell). x.cell ≡ None → x.label ≡ 4294967295) m.region.cols line is.nulls);
    }
