use Rattle.std.proofs.Common.{◌≡◌, ◌+◌, ◌*◌, ◌++◌, length, drop}
use Rattle.cell_ascii.specs.parts.FrontCells.{first_cells_of_bytes_or_row, cells_cut_into_rows}
use Rattle.cell_ascii.proofs.row_pushing.push_rows_of_bytes_or_cells.Given as goal

abbrev pub invariant-rows : goal.invariant-rows
invariant-rows l =
    let old = l.fn.builder in
    let all = first_cells_of_bytes_or_row (length l.fn.cells, l.fn.is_bytes) l.fn.bytes l.fn.cells in
    record {
      region : l.builder.region ≡ old.region;
      rows : l.builder.rows ++ cells_cut_into_rows l.fn.cols l.left (drop l.at all) ≡ old.rows
          ++ cells_cut_into_rows l.fn.cols l.fn.rows all;
      count : length l.builder.rows + l.left ≡ length old.rows + l.fn.rows;
      cells : l.at + l.left * l.fn.cols ≡ length l.fn.cells;
    }

abbrev pub decreases-rows : goal.decreases-rows
decreases-rows l = l.left
