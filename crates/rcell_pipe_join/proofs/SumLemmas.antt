-- Sums of tables.
use Rattle.std.proofs.Common.{◌≡◌, ◌∙◌, ℕ, ◌+◌, ◌<◌, ◌≤◌, ◌^◌, List, [], ◌∷◌, All, flat_map, sum_by, cond}
use Rattle.std.proofs.Common.{Bool, true, false, refl, ap, sym, arith}
use Rattle.std.specs.Ordering.{eq_by_cmp}
use Rattle.std.proofs.lemmas.List.Elements.{All-append, All-head, All-nil, All-tail}
use Rattle.std.proofs.lemmas.List.Sums.{sum_by-append, sum_by-cons}
use Rattle.cell_stats_combinations.specs.Combinations.{Combination, combination_cmp}
use Rattle.cell_stats_combinations.specs.Listed.{CombinationsAreAscending, CombinationCounts, NoEntryCountIsZero}
use Rattle.cell_stats_combinations.specs.Listed.{ListedCountsFitInSixtyFourBits, ListsHaveSameCounts}
use Rattle.cell_stats_combinations.specs.Listed.{entry_count_of_combination, listed_count_of_combination}
use Rattle.rcell_pipe_join.specs.TableEntries.{AreSumsOfTables, cell_count_of_table}

abbrev pub joined : List CombinationCounts → CombinationCounts
joined tables = flat_map (λ (t : CombinationCounts). t) tables

-- the count of a combination in all tables is the sum of its counts
pub listed-joined : (k : Combination) (tables : List CombinationCounts)
    → listed_count_of_combination k (joined tables) ≡ sum_by (listed_count_of_combination k) tables
listed-joined k [] = refl
listed-joined k (t ∷ ts) =
    sum_by-append (entry_count_of_combination k) t (joined ts)
    ∙ ap (λ (n : ℕ). listed_count_of_combination k t + n) (listed-joined k ts)
    ∙ sym (sum_by-cons (listed_count_of_combination k) t ts)

entry-few : (k : Combination) (entry : Combination × ℕ) → entry_count_of_combination k entry ≤ entry.1
entry-few k entry = by (eq_by_cmp combination_cmp k entry.0)
  where
    by : (same : Bool) → cond same entry.1 0 ≤ entry.1
    by true = omega arith
    by false = omega arith

listed-few : (k : Combination) (entries : CombinationCounts) → listed_count_of_combination k entries
    ≤ cell_count_of_table entries
listed-few k [] = omega arith
listed-few k (e ∷ es) =
    let one = entry-few k e in
    let more = listed-few k es in
    let mine : listed_count_of_combination k (e ∷ es) ≡ entry_count_of_combination k e + listed_count_of_combination k
    es = sum_by-cons (entry_count_of_combination k) e es in
    let all : cell_count_of_table (e ∷ es) ≡ e.1 + cell_count_of_table es =
    sum_by-cons (λ (entry : Combination × ℕ). entry.1) e es in
    omega (arith, one, more, mine, all)

all-few : (k : Combination) (tables : List CombinationCounts)
    → sum_by (listed_count_of_combination k) tables ≤ sum_by cell_count_of_table tables
all-few k [] = omega arith
all-few k (t ∷ ts) =
    let one = listed-few k t in
    let more = all-few k ts in
    let mine : sum_by (listed_count_of_combination k) (t ∷ ts)
    ≡ listed_count_of_combination k t + sum_by (listed_count_of_combination k) ts =
    sum_by-cons (listed_count_of_combination k) t ts in
    let all : sum_by cell_count_of_table (t ∷ ts) ≡ cell_count_of_table t + sum_by cell_count_of_table ts =
    sum_by-cons cell_count_of_table t ts in
    omega (arith, one, more, mine, all)

-- the count of each combination fits in 64 bits
pub joined-fits : (tables : List CombinationCounts) → sum_by cell_count_of_table tables < 2 ^ 64
    → ListedCountsFitInSixtyFourBits (joined tables)
joined-fits tables few k =
    let most = all-few k tables in let same = listed-joined k tables in omega (arith, few, most, same)

-- no entry of the joined tables has a count of 0
pub joined-some : (tables : List CombinationCounts) → All NoEntryCountIsZero tables → NoEntryCountIsZero (joined tables)
joined-some [] some = All-nil (λ (entry : Combination × ℕ). 0 < entry.1)
joined-some (t ∷ ts) some =
    All-append (λ (entry : Combination × ℕ). 0 < entry.1) t (joined ts) (All-head NoEntryCountIsZero t ts some)
    (joined-some ts (All-tail NoEntryCountIsZero t ts some))

-- the ordered entries of the joined tables are the sums
pub sums-are : (tables : List CombinationCounts) (all sums : CombinationCounts) → all ≡ joined tables
    → CombinationsAreAscending sums → NoEntryCountIsZero sums
    → ListsHaveSameCounts all sums → AreSumsOfTables tables sums
sums-are tables all sums is ascending some same = record {
  ascending = ascending;
  no_zero = some;
  counts = λ k. same k ∙ ap (listed_count_of_combination k) is ∙ listed-joined k tables;
}
