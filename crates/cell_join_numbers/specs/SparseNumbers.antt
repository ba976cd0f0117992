-- Numbers of labels, stored only for the paired labels.
use Rattle.std.specs.Prelude.{ℕ, false, ◌+◌, ◌-◌, ◌<◌, ◌≤◌, ◌≡◌, ◌↔◌, List, [], ◌∷◌, length, All, AllPairs, Contains, slice_index}
use Rattle.cell_join_numbers.specs.LabelNumbers.{root_labels_below}
use Rattle.cell_join_numbers.specs.Labelled.{AreClumpNumbersOfLabels, IsClumpCountOfLabels}
use Rattle.cell_join_numbers.specs.SparseLabels.{IncludesLabelsOfPairs, IsUnionFindOfPairedLabels}
use Rattle.cell_join_numbers.specs.SparseLabels.{paired_label_count_before_label}
use Rattle.cell_join_numbers.specs.SparseLabels.{is_paired_label, clump_number_of_any_label}

-- the labels of pairs
abbrev pub labels_of_pairs : List (ℕ × ℕ) → List ℕ
labels_of_pairs [] = []
labels_of_pairs (pair ∷ pairs) = pair.0 ∷ pair.1 ∷ labels_of_pairs pairs

-- the list contains exactly the labels of the pairs
abbrev pub AreLabelsOfPairs : List (ℕ × ℕ) → List ℕ → Type 0
AreLabelsOfPairs pairs paired = (label : ℕ) → Contains paired label ↔ Contains (labels_of_pairs pairs) label

-- a table of nodes in which the first nodes are replaced by the numbers of their labels, from 0
pub record FirstNodesHoldLabelNumbers (labels : ℕ) (pairs : List (ℕ × ℕ)) (paired joined : List ℕ) (place : ℕ) (table : List ℕ) (count : ℕ) : Type 0 where
  pub touching : IncludesLabelsOfPairs labels pairs paired
  pub is : IsUnionFindOfPairedLabels pairs paired joined
  pub later : (k : ℕ) → place ≤ k → slice_index table k ≡ slice_index joined k
  pub done : (k : ℕ) → k < place → slice_index table k + 1 ≡ clump_number_of_any_label pairs paired joined
      (slice_index paired k)
  pub counted : count ≡ length (root_labels_below joined place)

-- labels in order; a number from 0 for each, which is at most the label; and the number of roots before each label and
-- in all
pub record AreNumbersAndRootCountsOfLabels (paired numbers roots : List ℕ) : Type 0 where
  pub in_order : AllPairs ◌<◌ paired
  pub long : length numbers ≡ length paired
  pub long_roots : length roots ≡ length paired + 1
  pub low : (place : ℕ) → place < length paired → slice_index numbers place ≤ slice_index paired place
  pub few : (place : ℕ) → place ≤ length paired → slice_index roots place ≤ place

-- a number for each label, from 1: for a label that is not paired, the number of unpaired labels before it, plus the
-- number of roots before it, plus one
pub record AreNumbersOfLabels (number : ℕ → ℕ) (paired numbers roots : List ℕ) : Type 0 where
  pub at : (place : ℕ) → place < length paired → slice_index numbers place + 1 ≡ number (slice_index paired place)
  pub alone : (label : ℕ) → is_paired_label paired label ≡ false → number label ≡ (label - paired_label_count_before_label paired label) + slice_index roots (paired_label_count_before_label paired label) + 1

-- both labels of each pair are less than `labels`
abbrev pub ArePairLabelsBelowLabelCount : ℕ → List (ℕ × ℕ) → Type 0
ArePairLabelsBelowLabelCount labels pairs = All (λ pair. (pair.0 < labels) × (pair.1 < labels)) pairs

-- the numbers of the labels in these pairs, for any number of other labels
pub record AreNumbersOfPairedLabels (pairs : List (ℕ × ℕ)) (paired numbers roots : List ℕ) : Type 0 where
  pub number : ℕ → ℕ
  pub are : AreNumbersOfLabels number paired numbers roots
  pub right : (labels : ℕ) → ArePairLabelsBelowLabelCount labels pairs → AreClumpNumbersOfLabels labels pairs number
  pub count : (labels : ℕ) → ArePairLabelsBelowLabelCount labels pairs → IsClumpCountOfLabels labels pairs ((labels - length paired) + slice_index roots (length paired))
