use Rattle.std.proofs.Common.{◌≡◌, ◌++◌, None, map, get_or}
use Rattle.std.specs.Prelude.{sum}
use Rattle.std.specs.List.{range_with_len}
use Rattle.cell_join_tiles.specs.parts.RowLabels.{label_of_clump_from_first_labels}
use Rattle.cell_join_tiles.specs.parts.RowMarks.{labelled_category_of_cell}
use Rattle.cell_join_tiles.proofs.marks.add_labelled_categories_of_side.Given as goal

abbrev pub invariant-loop-place : goal.invariant-loop-place
invariant-loop-place l =
    l.line.items ≡ l.fn.line.items ++ map (λ k. labelled_category_of_cell
    (label_of_clump_from_first_labels l.firsts l.begun) (sum l.begun) (get_or l.side.cells.items k None)
    (get_or l.side.numbers.items k None)) (range_with_len 0 l.place)
