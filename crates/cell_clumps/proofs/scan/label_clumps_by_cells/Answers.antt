use Rattle.std.proofs.Common.{◌≡◌, ◌+◌, None, arith, rules, refl, ap, replicate, ◌∙◌}
use Rattle.std.proofs.lemmas.List.{length_push}
use Rattle.std.proofs.lemmas.List.Elements.{All-replicate}
use Rattle.cell_clumps.specs.declared.near.LabelledCell.{LabelledCell}
use Rattle.cell_clumps.proofs.LineLemmas.{all_rows, cells_first}
use Rattle.cell_clumps.proofs.NumberLemmas.{row_fits}
use Rattle.cell_clumps.proofs.RunLemmas.{kept_none}
use Rattle.cell_clumps.proofs.scan.label_clumps_by_cells.Goals as goal

pub loop-row-init : goal.loop-row-init
loop-row-init c =
    let m = c.args.map.now in
    let cols : c.cols-cols.result ≡ m.region.cols = c.cols-cols.ensures.value ∙ ap (λ r. r.cols) c.region-region.ensures.value in
    let line : c.as_mut_slice-line.result.now ≡ replicate (m.region.cols + 1) c.labelled_cell_outside_map.result =
    c.as_mut_slice-line.ensures.value ∙ c.in_ok-whole.ensures.items_if_clones_equal (λ y e. e) ∙ rw cols refl in
    let none = c.in_ok-table.ensures.items in
    let empty = c.in_ok-rows.ensures.items in
    record {
      wide = c.as_mut_slice-cells.ensures.len ∙ c.in_ok-buffer.ensures.len ∙ cols;
      down = rw none (λ k. search rules);
      most = rw none (omega arith);
      nulls = rw line (All-replicate (λ (x : LabelledCell). x.cell ≡ None → x.label ≡ 4294967295) (m.region.cols + 1)
          c.labelled_cell_outside_map.result (λ _. ap (λ x. x.label) c.labelled_cell_outside_map.ensures));
      count = rw empty refl;
      lines = rw (none, empty) (record {
        cells = cells_first c.args.joining m c.as_mut_slice-line.result.now c.labelled_cell_outside_map.result
            c.region-region.ensures.filled line (ap (λ x. x.cell) c.labelled_cell_outside_map.ensures);
        kept_are = kept_none m _;
      });
    }

pub label_clumps_in_row-requires : goal.label_clumps_in_row-requires
label_clumps_in_row-requires c =
    let region = c.region-region.ensures.value in
    let is = c.loop-row.invariant in
    let row = rw (c.rows-row-end.ensures.value ∙ ap (λ r. r.rows) region) at c.loop-row-test.true in
    record {
      row = row;
      wide = is.wide;
      down = is.down;
      short = row_fits c.args.map.now.region _ c.loop-row.row (rw region at c.cols-cols.ensures.region) row is.most;
      nulls = is.nulls;
      read = record { cells = is.lines.cells; kept_are = kept_none c.args.map.now _ };
    }

pub loop-row-preserved : goal.loop-row-preserved
loop-row-preserved c =
    let is = c.loop-row.invariant in
    let pushed = c.in_ok-push.ensures.items in
    let cols : c.cols-cols.result ≡ c.args.map.now.region.cols = c.cols-cols.ensures.value ∙ ap (λ r. r.cols) c.region-region.ensures.value in
    record {
      wide = c.label_clumps_in_row.auto.cells ∙ is.wide;
      down = c.in_ok-label_clumps_in_row.ensures.down;
      most = omega (arith, is.most, c.in_ok-label_clumps_in_row.ensures.long);
      nulls = c.in_ok-label_clumps_in_row.ensures.nulls;
      count = rw pushed (length_push c.loop-row.rows.items _ ∙ ap (λ n. n + 1) is.count);
      lines = rw (pushed, c.in_ok-store_labels_of_cells.ensures) (rw cols (c.in_ok-label_clumps_in_row.ensures.read c.loop-row.rows.items is.count is.lines));
    }

pub returns : goal.returns
returns c =
    let is = c.loop-row.invariant in
    let all = all_rows c.loop-row-test.false c.loop-row.auto.row-end
    (c.rows-row-end.ensures.value ∙ ap (λ r. r.rows) c.region-region.ensures.value) in
    record {
      labels = record {
        down = is.down;
        labels = is.lines.cells.labels;
        long = is.lines.cells.count
            ∙ rw all (omega arith);
        has_read = is.lines.cells.has_read;
      };
      kept_are = is.lines.kept_are;
      count = is.count ∙ all;
    }
