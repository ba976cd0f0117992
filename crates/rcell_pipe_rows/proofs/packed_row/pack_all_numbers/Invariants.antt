use Rattle.std.proofs.Common.{◌≡◌, ◌<◌, ◌≤◌, ℕ, length, get_or}
use Rattle.rcell_pipe_rows.specs.parts.PackedBytes.{packed_byte_at_place}
use Rattle.rcell_pipe_rows.proofs.packed_row.pack_all_numbers.Given as goal

abbrev pub invariant-loop-i : goal.invariant-loop-i
invariant-loop-i l = record {
  size : length l.bytes ≡ length l.fn.bytes;
  packed : (place : ℕ) → place < l.i → get_or l.bytes place 0 ≡ packed_byte_at_place l.mask l.null l.fn.bytes place;
  others : (place : ℕ) → l.i ≤ place → get_or l.bytes place 0 ≡ get_or l.fn.bytes place 0;
}
