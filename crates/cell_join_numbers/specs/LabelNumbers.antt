-- The numbers of labels.
use Rattle.std.specs.Prelude.{ℕ, zero, suc, Bool, List, [], ◌∷◌, ◌++◌, length, nat_eq, slice_index, if◌then◌else◌}

-- the label `k` is open: it points to itself
abbrev pub is_open : List ℕ → ℕ → Bool
is_open table k = nat_eq (slice_index table k) k

-- the open labels below a label
abbrev pub root_labels_below : List ℕ → ℕ → List ℕ
root_labels_below table zero = []
root_labels_below table (suc k) = if is_open table k then root_labels_below table k ++ k
    ∷ [] else root_labels_below table k

-- the number of open labels up to and including `k`
abbrev pub root_count_up_to_label : List ℕ → ℕ → ℕ
root_count_up_to_label table k = length (root_labels_below table (suc k))
