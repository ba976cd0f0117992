use Rattle.std.proofs.Common.{◌≡◌, ◌&&◌, not, negsuc, take}
use Rattle.rcell_pipe_rows.specs.RawRows.{is_nodata, raw_cells, has_invalid_raw_number}
use Rattle.rcell_pipe_rows.proofs.raw_row.fill_row_of_narrow_numbers.Given as goal

abbrev pub invariant-loop-i : goal.invariant-loop-i
invariant-loop-i l = record {
  cells : take l.i l.cells ≡ raw_cells l.kind l.nodata l.mask l.bytes l.i;
  outside : (l.found && not (is_nodata l.nodata (negsuc 2147483647)))
      ≡ has_invalid_raw_number l.kind l.nodata l.mask l.bytes l.i;
}
