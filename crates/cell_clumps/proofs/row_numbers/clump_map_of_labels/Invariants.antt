use Rattle.std.proofs.Common.{◌≡◌, ◌+◌, ◌++◌, All, length, map}
use Rattle.std.specs.Vec.Iter.{into_iter_items, into_iter_len}
use Rattle.cell_clumps.specs.parts.RunsOfLabels.{clump_number_cell_of_label}
use Rattle.cell_clumps.proofs.row_numbers.clump_map_of_labels.Given as goal

abbrev pub invariant-loop-labels : goal.invariant-loop-labels
invariant-loop-labels l = record {
  width : length l.cells ≡ l.fn.region.cols;
  region : l.builder.region ≡ l.fn.region;
  whole : l.builder.rows ++ map (map (clump_number_cell_of_label l.table)) (into_iter_items l.labels-iterator) ≡ map
      (map (clump_number_cell_of_label l.table)) l.fn.rows.items;
  count : length l.builder.rows + length (into_iter_items l.labels-iterator) ≡ l.fn.region.rows;
  wide : All (λ row. length row ≡ l.fn.region.cols) (into_iter_items l.labels-iterator);
  len : into_iter_len l.labels-iterator ≡ length (into_iter_items l.labels-iterator);
}
