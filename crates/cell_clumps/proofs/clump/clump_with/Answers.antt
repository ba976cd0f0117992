use Rattle.std.proofs.Common.{List, ℕ, length, ap, refl, sym, subst, ◌∙◌}
use Rattle.std.proofs.lemmas.Result.{IfOk-weaker}
use Rattle.cell_clumps.specs.Clumps.{IsClumpMapOf}
use Rattle.cell_clumps.specs.parts.ClumpNumbers.{AreAllLabelsNumbered, ReplacesLabelsByClumpNumbers}
use Rattle.cell_clumps.specs.parts.RunsOfLabels.{AreLabelTableAndRowLabelsOfMap}
use Rattle.cell_clumps.proofs.NumberLemmas.{table_short}
use Rattle.cell_clumps.proofs.RowNumberLemmas.{made_clumping, numbers_small, rows_wide}
use Rattle.cell_clumps.proofs.clump.clump_with.Goals as goal

pub replace_labels_by_clump_numbers-requires : goal.replace_labels_by_clump_numbers-requires
replace_labels_by_clump_numbers-requires c =
    let runs : AreLabelTableAndRowLabelsOfMap c.args.joining c.args.map.now c.in_ok-table.field-0.table.items
    c.in_ok-table.field-0.rows.items = c.in_ok-table.ensures in
    let same = c.as_mut_slice-numbers.ensures.value in
    record {
      down = rw same runs.labels.down;
      short = rw same (table_short c.args.joining c.args.map.now c.in_ok-table.field-0.table.items runs.labels
          (rw c.region-region.ensures.value at c.cols.ensures.region));
    }

pub clump_map_of_labels-requires : goal.clump_map_of_labels-requires
clump_map_of_labels-requires c =
    let j = c.args.joining in
    let m = c.args.map.now in
    let table : List ℕ = c.in_ok-table.field-0.table.items in
    let runs : AreLabelTableAndRowLabelsOfMap j m table c.in_ok-table.field-0.rows.items = c.in_ok-table.ensures in
    let region = c.region-region.ensures.value in
    let same = c.as_mut_slice-numbers.ensures.value in
    let all : ReplacesLabelsByClumpNumbers table c.replace_labels_by_clump_numbers.new.table = subst (λ
    (l : List ℕ). ReplacesLabelsByClumpNumbers l c.replace_labels_by_clump_numbers.new.table) same
    c.replace_labels_by_clump_numbers.ensures.numbered in
    let n : AreAllLabelsNumbered j m table runs.labels c.replace_labels_by_clump_numbers.new.table = record {
      long = c.replace_labels_by_clump_numbers.auto.table ∙ ap (length {A = ℕ}) same;
      short = table_short j m table runs.labels (rw region at c.cols.ensures.region);
      done = λ k lt. all j m runs.labels.has_read.open_of runs.labels.has_read.read.sound k lt;
    } in
    record {
      small = numbers_small j m table runs.labels c.replace_labels_by_clump_numbers.new.table n;
      wide = rw region (rows_wide m runs.labels.labels c.in_ok-table.field-0.rows.items runs.kept_are);
      count = runs.count ∙ ap (λ r. r.rows) (sym region);
      width = c.as_mut_slice.ensures.len ∙ c.in_ok-cells.ensures.len ∙ c.cols.ensures.value;
    }

pub returns : goal.returns
returns c =
    let j = c.args.joining in
    let m = c.args.map.now in
    let table : List ℕ = c.in_ok-table.field-0.table.items in
    let runs : AreLabelTableAndRowLabelsOfMap j m table c.in_ok-table.field-0.rows.items = c.in_ok-table.ensures in
    let region = c.region-region.ensures.value in
    let same = c.as_mut_slice-numbers.ensures.value in
    let all : ReplacesLabelsByClumpNumbers table c.replace_labels_by_clump_numbers.new.table = subst (λ
    (l : List ℕ). ReplacesLabelsByClumpNumbers l c.replace_labels_by_clump_numbers.new.table) same
    c.replace_labels_by_clump_numbers.ensures.numbered in
    let n : AreAllLabelsNumbered j m table runs.labels c.replace_labels_by_clump_numbers.new.table = record {
      long = c.replace_labels_by_clump_numbers.auto.table ∙ ap (length {A = ℕ}) same;
      short = table_short j m table runs.labels (rw region at c.cols.ensures.region);
      done = λ k lt. all j m runs.labels.has_read.open_of runs.labels.has_read.read.sound k lt;
    } in
    IfOk-weaker _ _ (IsClumpMapOf j m)
    (λ made is. made_clumping j m table c.in_ok-table.field-0.rows.items runs
    c.replace_labels_by_clump_numbers.new.table n
    made
    (is ∙ rw region refl)) c.clump_map_of_labels.ensures
