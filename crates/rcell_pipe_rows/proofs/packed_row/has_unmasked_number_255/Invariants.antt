use Rattle.std.proofs.Common.{◌≡◌, ◌≢◌, ◌<◌, ℕ, false, get_or}
use Rattle.std.specs.Prelude.{slice_get}
use Rattle.rcell_pipe_rows.specs.RawRows.{is_hiding_mask_byte}
use Rattle.rcell_pipe_rows.proofs.packed_row.has_unmasked_number_255.Given as goal

abbrev pub invariant-loop-i : goal.invariant-loop-i
invariant-loop-i l = l.found ≡ false → (place : ℕ) → place < l.i
    → is_hiding_mask_byte (slice_get l.mask place) ≡ false → get_or l.bytes place 0 ≢ 255
