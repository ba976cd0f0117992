-- Counts of combinations in a list.
use Rattle.std.proofs.Common.{◌≡◌, ℕ, ◌+◌, Bool, true, false, cond, ap, refl, ◌∙◌}
use Rattle.cell_stats_combinations.specs.Combinations.{Combination}
use Rattle.cell_stats_combinations.specs.Listed.{entry_count_of_combination}
use Rattle.cell_stats_combinations.specs.parts.Same.{are_same_combination}
use Rattle.cell_stats_combinations.proofs.OrderLemmas.{same-itself}

-- an entry counts its own combination
pub entry-own : (k : Combination) (e : Combination × ℕ) → e.0 ≡ k → entry_count_of_combination k e ≡ e.1
entry-own k e same = ap (λ x. cond (are_same_combination k x) e.1 0) same ∙ ap (λ b. cond b e.1 0) (same-itself k)

pub cond-add : (b : Bool) (m n : ℕ) → cond b (m + n) 0 ≡ cond b m 0 + cond b n 0
cond-add true m n = refl
cond-add false m n = refl
