-- Runs of blanks, given as bits that start at an index.
use Rattle.std.specs.Prelude.{ℕ, ◌-◌, ◌≡◌, ◌<◌, ◌≤◌, true, List, drop, take, length, slice_index_or}
use Rattle.std.specs.List.{list_all}
use Rattle.std.specs.Simd.Lanes.{mask_l}
use Rattle.cell_ascii_meaning.specs.GridTokens.{is_space}
use Rattle.cell_ascii.specs.TableWords.{blanks, flags_with_first_cleared}

-- the byte at the index is a blank, and the bits mark the blanks from this index
pub record ByteIsBlankAndBitsMarkBlanks (bs : List ℕ) (ends at : ℕ) : Type 0 where
  pub buffered : 64 ≤ length bs
  pub bits : ends ≡ mask_l (flags_with_first_cleared at (blanks bs))
  pub blank : is_space (slice_index_or bs at 0) ≡ true

-- all bytes from `at` to the returned index are blanks, and the returned bits mark the blanks after it
pub record AreIndexAndBitsAfterBlanks (bs : List ℕ) (at : ℕ) (behind : ℕ × ℕ) : Type 0 where
  pub some : at < behind.0
  pub few : behind.0 ≤ 64
  pub run : list_all is_space (take (behind.0 - at) (drop at bs)) ≡ true
  pub bits : behind.1 ≡ mask_l (flags_with_first_cleared behind.0 (blanks bs))
