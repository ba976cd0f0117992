-- An ordered list in which entries of the same combination are added up in place.
use Rattle.std.specs.Prelude.{ℕ, ◌≡◌, ◌+◌, ◌<◌, ◌≤◌, ◌^◌, Bool, false, length, take, drop, slice_index_or}
use Rattle.std.specs.Ordering.{is_lt}
use Rattle.std.specs.declared.cmp.Ordering.TheVariants.{Less}
use Rattle.cell_stats_combinations.specs.Combinations.{Combination, combination_cmp}
use Rattle.cell_stats_combinations.specs.Listed.{CombinationCounts, listed_count_of_combination, NoEntryCountIsZero}
use Rattle.cell_stats_combinations.specs.parts.Same.{are_same_combination}

-- no combination is smaller than the one before it
abbrev pub CombinationsNeverDescend : CombinationCounts → Type 0
CombinationsNeverDescend entries = (i : ℕ) (d : Combination × ℕ) → i + 1 < length entries → is_lt (combination_cmp (slice_index_or entries (i + 1) d).0 (slice_index_or entries i d).0) ≡ false

-- the entries before `at` are added up in those up to `last`, which strictly ascend, and the others are unchanged
pub record AreEntriesMergedUpTo (old now : CombinationCounts) (last at : ℕ) : Type 0 where
  pub size : length now ≡ length old
  pub before : last < at
  pub within : at ≤ length old
  pub ascends : (i : ℕ) (d : Combination × ℕ) → i < last → combination_cmp (slice_index_or now i d).0 (slice_index_or now (i + 1) d).0 ≡ Less
  pub border : (d : Combination × ℕ) → at < length old → is_lt (combination_cmp (slice_index_or old at d).0 (slice_index_or now last d).0) ≡ false
  pub others : (i : ℕ) (d : Combination × ℕ) → at ≤ i → slice_index_or now i d ≡ slice_index_or old i d
  pub counts : (k : Combination) → listed_count_of_combination k (take (last + 1) now) + listed_count_of_combination k
      (drop at old) ≡ listed_count_of_combination k old
  pub no_zero : NoEntryCountIsZero (take (last + 1) now)

-- whether the entries at two indices have the same combination
abbrev pub TellsIfCombinationsAreEqual : CombinationCounts → ℕ → ℕ → Bool → Type 0
TellsIfCombinationsAreEqual entries a b same = (d : Combination × ℕ) → same ≡ are_same_combination (slice_index_or entries a d).0 (slice_index_or entries b d).0

-- if two entries have the same combination, the sum of their counts fits in 64 bits
abbrev pub SumOfEqualEntriesFits : CombinationCounts → ℕ → ℕ → Type 0
SumOfEqualEntriesFits entries a b = (d : Combination × ℕ) → (slice_index_or entries a d).0
    ≡ (slice_index_or entries b d).0
    → (slice_index_or entries a d).1 + (slice_index_or entries b d).1 < 2 ^ 64

-- one more entry is added up in place
abbrev pub AddsUpOneMoreEntry : CombinationCounts → ℕ → ℕ → CombinationCounts → ℕ → Type 0
AddsUpOneMoreEntry now last at new next = (old : CombinationCounts) → CombinationsNeverDescend old → NoEntryCountIsZero old → AreEntriesMergedUpTo old now last at → AreEntriesMergedUpTo old new next (at + 1)
