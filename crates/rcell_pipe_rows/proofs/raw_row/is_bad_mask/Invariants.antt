use Rattle.std.proofs.Common.{◌≡◌, take}
use Rattle.rcell_pipe_rows.specs.RawRows.{is_bad_mask}
use Rattle.rcell_pipe_rows.proofs.raw_row.is_bad_mask.Given as goal

abbrev pub invariant-loop-byte : goal.invariant-loop-byte
invariant-loop-byte l = l.found ≡ is_bad_mask (take l.byte-index l.mask)
