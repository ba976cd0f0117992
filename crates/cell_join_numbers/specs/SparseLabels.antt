-- Only clumps of tiles that touch a seam need labels; all numbers in the full map follow from these labels.
use Rattle.std.specs.Prelude.{ℕ, Bool, ◌+◌, ◌-◌, ◌<◌, ◌≡◌, List, length, map, All, Contains, count_by}
use Rattle.std.specs.Prelude.{nat_eq, nat_lt, slice_index, IsSome, if◌then◌else◌}
use Rattle.std.specs.List.{AllPairs, list_any}
use Rattle.cell_core.specs.Grid.{Grid}
use Rattle.cell_clumps.specs.declared.clump.Joining.{Joining}
use Rattle.cell_clumps.specs.Clumps.{Position, cell_at_position, HasClumpNumber}
use Rattle.cell_join_numbers.specs.Labelled.{MapHasClumpCount}
use Rattle.cell_join_numbers.specs.Labelled.{AreCellsLabelledInOrder}
use Rattle.cell_join_numbers.specs.UnionFind.{AreRootsOfLabels, roots_after_all_joins}
use Rattle.cell_join_numbers.specs.LabelNumbers.{root_labels_below, root_count_up_to_label}

-- some of the labels, in order, including the labels of each pair
pub record IncludesLabelsOfPairs (labels : ℕ) (pairs : List (ℕ × ℕ)) (touching : List ℕ) : Type 0 where
  pub in_order : AllPairs ◌<◌ touching
  pub few : All (λ l. l < labels) touching
  pub paired : All (λ pair. Contains touching pair.0 × Contains touching pair.1) pairs

-- the number of touching labels before a label, which is the index of the label if it is touching
abbrev pub paired_label_count_before_label : List ℕ → ℕ → ℕ
paired_label_count_before_label touching label = count_by (λ l. nat_lt l label) touching

-- the indices of two labels
abbrev pub places_of_label_pair : List ℕ → ℕ × ℕ → ℕ × ℕ
places_of_label_pair touching pair = (
  paired_label_count_before_label touching pair.0,
  paired_label_count_before_label
      touching pair.1,
)

-- the index to which each index leads, once the indices of each pair are joined
abbrev pub root_place_after_joins_of_pairs : List ℕ → List (ℕ × ℕ) → ℕ → ℕ
root_place_after_joins_of_pairs touching pairs = roots_after_all_joins (λ k. k)
    (map (places_of_label_pair touching) pairs)

-- a union-find table of only the touching labels, with every pair united
pub record IsUnionFindOfPairedLabels (pairs : List (ℕ × ℕ)) (touching table : List ℕ) : Type 0 where
  pub long : length table ≡ length touching
  pub leads : AreRootsOfLabels table (root_place_after_joins_of_pairs touching pairs)

-- the label is touching
abbrev pub is_paired_label : List ℕ → ℕ → Bool
is_paired_label touching label = list_any (nat_eq label) touching

-- the label to which a label leads: for a touching label, the label at the index to which its own index leads; any
-- other label leads to itself
abbrev pub root_label_of_any_label : List ℕ → List (ℕ × ℕ) → ℕ → ℕ
root_label_of_any_label touching pairs label =
    if is_paired_label touching label
    then slice_index touching (root_place_after_joins_of_pairs touching pairs
    (paired_label_count_before_label touching label))
    else label

-- the number of a label that leads to itself: the number of labels before it that are not touching, plus the number of
-- touching labels before it that lead to themselves, plus one
abbrev pub number_of_root_label : (touching table : List ℕ) → ℕ → ℕ
number_of_root_label touching table label =
    (label - paired_label_count_before_label touching label) + length (root_labels_below table
    (paired_label_count_before_label touching label)) + 1

-- the number of any label
abbrev pub clump_number_of_any_label : List (ℕ × ℕ) → (touching table : List ℕ) → ℕ → ℕ
clump_number_of_any_label pairs touching table label = number_of_root_label touching table
    (root_label_of_any_label touching pairs label)

-- the number of labels that lead to themselves
abbrev pub root_count_of_all_labels : ℕ → (touching table : List ℕ) → ℕ
root_count_of_all_labels labels touching table = (labels - length touching) + length
    (root_labels_below table (length table))

-- the number of the touching label at an index: the number of the index to which the index leads, plus the number of
-- labels that are not touching and precede the label to which the touching label leads
abbrev pub RootPlacesGivePairedLabelNumbers : Type 0
RootPlacesGivePairedLabelNumbers = (labels : ℕ) (pairs : List (ℕ × ℕ)) (touching table : List ℕ)
    → IncludesLabelsOfPairs labels pairs touching → IsUnionFindOfPairedLabels pairs touching table
    → (place : ℕ) → place < length touching
    → clump_number_of_any_label pairs touching table (slice_index touching place)
    ≡ (slice_index touching (root_place_after_joins_of_pairs touching pairs place) - root_place_after_joins_of_pairs
    touching pairs
    place)
    + root_count_up_to_label table (root_place_after_joins_of_pairs touching pairs place)

-- for tiles of any shape, these are the numbers of the cells and the number of clumps
abbrev pub PairedLabelsGiveClumpNumbers : Type 0
PairedLabelsGiveClumpNumbers = (j : Joining) (m : Grid) (starts : List Position) (label_of : Position → ℕ)
    (pairs : List (ℕ × ℕ)) → AreCellsLabelledInOrder j m starts label_of pairs → (touching table : List ℕ)
    → IncludesLabelsOfPairs (length starts) pairs touching → IsUnionFindOfPairedLabels pairs touching table
    → ((p : Position) → IsSome (cell_at_position m p) → HasClumpNumber j m p (clump_number_of_any_label pairs touching table (label_of p)))
    × MapHasClumpCount j m (root_count_of_all_labels (length starts) touching table)
