use Rattle.std.proofs.Common.{◌≡◌, take}
use Rattle.rcell_pipe_rows.specs.RawRows.{raw_cells, has_invalid_raw_number}
use Rattle.rcell_pipe_rows.proofs.raw_row.fill_row_and_report_invalid.Given as goal

abbrev pub invariant-loop-i : goal.invariant-loop-i
invariant-loop-i l = (take l.i l.cells ≡ raw_cells l.kind l.nodata l.mask l.bytes l.i)
    × (l.outside ≡ has_invalid_raw_number l.kind l.nodata l.mask l.bytes l.i)
