use Rattle.std.proofs.Common.{◌≡◌, ℕ, All, length, ◌-◌, subst, sym}
use Rattle.cell_stats_combinations.specs.Combinations.{Combination}
use Rattle.cell_stats.specs.CategoryTables.{CombinationsWithCounts}
use Rattle.cell_stats.proofs.WidthLemmas.{All-part}
use Rattle.cell_stats.proofs.table.Table.printed_entries.Goals as goal

pub returns-in-Some-clause-wide : goal.returns-in-Some-clause-wide
returns-in-Some-clause-wide c = λ k d within.
    let entries = c.deref-in-Some.result.now in
    let wide : All (λ (pair : Combination × ℕ). length pair.0 ≡ c.self.inside.width) entries = subst (λ (es : CombinationsWithCounts). All (λ (pair : Combination × ℕ). length pair.0 ≡ c.self.inside.width) es) (sym c.deref-in-Some.ensures.value) c.self.invariant.1 in
    let at = All-part (λ (pair : Combination × ℕ). length pair.0 ≡ c.self.inside.width) entries (length entries - c.place_after_combination.result) c.place_after_combination.result wide k d within in
    let same : c.self.inside.width ≡ c.args.self.now.width = cc in
    cc
