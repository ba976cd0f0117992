-- Labels of the clumps of tiles, and the labels to which they lead once some are joined. Labels are numbers from 0.
use Rattle.std.specs.Prelude.{ℕ, ◌≤◌, ◌≡◌, List, [], ◌∷◌, length}
use Rattle.cell_clumps.specs.parts.Labels.{LabelsLeadToRoots, root_label_after_join}

-- `open_of` maps each label to the open label to which it leads; a label that is not in the table leads to itself
pub record AreRootsOfLabels (table : List ℕ) (open_of : ℕ → ℕ) : Type 0 where
  pub reports : LabelsLeadToRoots table open_of
  pub beyond : (k : ℕ) → length table ≤ k → open_of k ≡ k

-- each label still leads to the same open label
abbrev pub KeepsRootOfEachLabel : (old new : List ℕ) → Type 0
KeepsRootOfEachLabel old new = (open_of : ℕ → ℕ) → AreRootsOfLabels old open_of → AreRootsOfLabels new open_of

-- the labels to which labels lead, after the labels of each pair are joined, one pair after another
abbrev pub roots_after_all_joins : (ℕ → ℕ) → List (ℕ × ℕ) → ℕ → ℕ
roots_after_all_joins open_of [] = open_of
roots_after_all_joins open_of (pair ∷ pairs) = roots_after_all_joins (root_label_after_join open_of pair.0 pair.1) pairs

-- the labels of each pair were joined
abbrev pub JoinsLabelsOfEachPair : List (ℕ × ℕ) → (old new : List ℕ) → Type 0
JoinsLabelsOfEachPair pairs old new = (open_of : ℕ → ℕ) → AreRootsOfLabels old open_of
    → AreRootsOfLabels new (roots_after_all_joins open_of pairs)
