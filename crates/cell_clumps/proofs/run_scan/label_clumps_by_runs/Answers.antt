use Rattle.std.proofs.Common.{◌<◌, ◌+◌, ◌++◌, ◌∷◌, [], ap, refl, ◌∙◌, arith, rules}
use Rattle.std.proofs.lemmas.List.{length_push}
use Rattle.std.proofs.lemmas.List.Elements.{All-nil, All-push}
use Rattle.cell_clumps.proofs.LineLemmas.{all_rows}
use Rattle.cell_clumps.proofs.NumberLemmas.{row_fits}
use Rattle.cell_clumps.proofs.RunLemmas.{kept_none, runs_first}
use Rattle.cell_clumps.proofs.run_scan.label_clumps_by_runs.Goals as goal

pub loop-row-init : goal.loop-row-init
loop-row-init c =
    let m = c.args.map.now in
    let region = c.region-region.ensures.value in
    let line = c.in_ok-push.ensures.items
    ∙ ap (λ l. l ++ (c.labelled_cell_outside_map.result, c.cols.result) ∷ []) c.in_ok-line.ensures.items in
    let cols = c.cols.ensures.value ∙ ap (λ r. r.cols) region in
    let some = c.cols.ensures.region.cols_least in
    record {
      down = rw c.in_ok-table.ensures.items (λ k. search rules);
      most = rw c.in_ok-table.ensures.items (omega arith);
      lengths = rw line (All-push (λ run. 0 < run.1) [] (c.labelled_cell_outside_map.result, c.cols.result) (All-nil
          (λ run. 0 < run.1)) (omega (arith, c.cols.ensures.value)));
      count = rw c.in_ok-rows.ensures.items refl;
      runs = rw (line, c.in_ok-rows.ensures.items, c.in_ok-table.ensures.items)
          (runs_first c.args.joining m c.labelled_cell_outside_map.result c.cols.result c.region-region.ensures.filled
          c.labelled_cell_outside_map.ensures cols);
    }

pub label_clumps_in_row_of_runs-requires : goal.label_clumps_in_row_of_runs-requires
label_clumps_in_row_of_runs-requires c =
    let region = c.region-region.ensures.value in
    let is = c.loop-row.invariant in
    let row = rw (c.rows-row-end.ensures.value ∙ ap (λ r. r.rows) region) at c.loop-row-test.true in
    record {
      row = row;
      down = is.down;
      short = row_fits c.args.map.now.region _ c.loop-row.row (rw region at c.cols.ensures.region) row is.most;
      lengths = rw c.as_slice.ensures.value is.lengths;
      empty = c.clear.ensures.items;
      read = rw c.as_slice.ensures.value (record { cells = is.runs.cells; kept_are = kept_none c.args.map.now _ });
    }

pub loop-row-preserved : goal.loop-row-preserved
loop-row-preserved c =
    let is = c.loop-row.invariant in
    let pushed = c.in_ok-push-2.ensures.items in
    let line = c.swap.ensures.x_after in
    record {
      down = c.in_ok-labels.ensures.down;
      most = omega (arith, is.most, c.in_ok-labels.ensures.long);
      lengths = rw line c.in_ok-labels.ensures.lengths;
      count = rw pushed (length_push c.loop-row.rows.items c.in_ok-labels.labels ∙ ap (λ n. n + 1) is.count);
      runs = rw (line, pushed) (c.in_ok-labels.ensures.read c.loop-row.rows.items is.count
          (rw c.as_slice.ensures.value is.runs));
    }

pub returns : goal.returns
returns c =
    let is = c.loop-row.invariant in
    let all = all_rows c.loop-row-test.false c.loop-row.auto.row-end
    (c.rows-row-end.ensures.value ∙ ap (λ r. r.rows) c.region-region.ensures.value) in
    record {
      labels = record {
        down = is.down;
        labels = is.runs.cells.labels;
        long = is.runs.cells.count
            ∙ rw all (omega arith);
        has_read = is.runs.cells.has_read;
      };
      kept_are = is.runs.kept_are;
      count = is.count ∙ all;
    }
