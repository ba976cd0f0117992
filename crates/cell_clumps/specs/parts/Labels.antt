-- Labels, and the table that points each label to another. Labels are numbered from 0, in the row order of the cells
-- that they were created for.
use Rattle.std.specs.Prelude.{ℕ, ◌<◌, ◌≤◌, ◌≡◌, List, length, slice_index, nat_eq, if◌then◌else◌, min, max}

-- each label points to itself or to a smaller label
abbrev pub LabelsPointToSmallerOrSelf : List ℕ → Type 0
LabelsPointToSmallerOrSelf table = (k : ℕ) → slice_index table k ≤ k

-- `open_of` returns the open label that each label leads to; an open label points to itself
pub record LabelsLeadToRoots (table : List ℕ) (open_of : ℕ → ℕ) : Type 0 where
  pub points : (k : ℕ) → k < length table → open_of (slice_index table k) ≡ open_of k
  pub itself : (k : ℕ) → k < length table → slice_index table k ≡ k → open_of k ≡ k
  pub is_open : (k : ℕ) → k < length table → slice_index table (open_of k) ≡ open_of k
  pub low : (k : ℕ) → k < length table → open_of k ≤ k

-- the open label of label k after `high` was closed and points to `low`
abbrev pub root_after_linking_roots : (ℕ → ℕ) → ℕ → ℕ → ℕ → ℕ
root_after_linking_roots open_of high low k = if nat_eq (open_of k) high then low else open_of k

-- the open label of label k after the labels a and b were joined, which closes the larger of their open labels
abbrev pub root_label_after_join : (ℕ → ℕ) → ℕ → ℕ → ℕ → ℕ
root_label_after_join open_of a b = root_after_linking_roots open_of (max (open_of a) (open_of b))
    (min (open_of a) (open_of b))
