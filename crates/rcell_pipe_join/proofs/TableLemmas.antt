-- The entries of a table and their counts.
use Rattle.std.proofs.Common.{◌≡◌, ◌∙◌, ℕ, ◌<◌, List, All, length, get_or, ap, sym, subst, arith}
use Rattle.std.proofs.lemmas.List.{get_or-map, length-map}
use Rattle.cell_stats_combinations.specs.Combinations.{Combination}
use Rattle.cell_stats_combinations.specs.Listed.{CombinationCounts, NoEntryCountIsZero}
use Rattle.rcell_pipe_join.specs.parts.TableCounts.{entry_counts}

-- if no count is 0, no entry has a count of 0
pub no-zero : (entries : CombinationCounts) (counts : List ℕ) → entry_counts entries ≡ counts → All (λ n. 0 < n) counts
    → NoEntryCountIsZero entries
no-zero entries counts is some = λ k d lt.
    let long = ap (λ (l : List ℕ). length l) is in
    let same = length-map entries (λ (entry : Combination × ℕ). entry.1) in
    subst (λ (n : ℕ). 0 < n)
    (ap (λ (l : List ℕ). get_or l k d.1) (sym is)
    ∙ get_or-map (λ (entry : Combination × ℕ). entry.1) entries k d d.1 lt)
    (some k d.1 (omega (arith, lt, long, same)))
