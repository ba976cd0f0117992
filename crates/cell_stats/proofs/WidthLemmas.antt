-- Each combination of a table has as many cells as there are picks.
use Rattle.std.proofs.Common.{◌≡◌, ℕ, zero, suc, ◌+◌, ◌<◌, List, [], ◌∷◌, length, map, take, drop, get_or, All, true, false, cond, refl, ap, sym, subst, ◌∙◌, arith, zero-add}
use Rattle.std.proofs.lemmas.List.{length-map}
use Rattle.std.proofs.lemmas.List.Elements.{All-append, All-drop, All-map, All-take}
use Rattle.std.specs.List.{flat_map, range_with_len}
use Rattle.std.specs.Ordering.{eq_by_cmp}
use Rattle.cell_core.specs.Grid.{Grid}
use Rattle.cell_stats_combinations.specs.declared.skip.Skip.{Skip}
use Rattle.cell_stats_combinations.specs.Combinations.{Combination, combination_cmp, cell_of_map_at_place, combination_at_row_and_column, row_combinations, all_combinations}
use Rattle.cell_stats_counts.specs.Counts.{cell_count_of_combination}
use Rattle.cell_stats.specs.CategoryTables.{CombinationsWithCounts, IsTable}
use Rattle.cell_stats_combinations.proofs.OrderLemmas.{combination_cmp-exact, is_equal}
use Rattle.cell_stats.proofs.TableLemmas.{count_cons}

-- a combination that occurs has each property that all cells have
occurs : (P : Combination → Type 0) (k : Combination) (cells : List Combination) → All P cells → 0 < cell_count_of_combination k cells → P k
occurs P k [] all some = absurd (omega (arith, some))
occurs P k (x ∷ cells) all some =
    elim (eq_by_cmp combination_cmp k x) as (λ b. eq_by_cmp combination_cmp k x ≡ b → P k) [
      | true ↦ λ same. subst P (sym (combination_cmp-exact k x (is_equal _ same))) (all 0 x (omega arith))
      | false ↦ λ other.
          let fewer : cell_count_of_combination k (x ∷ cells) ≡ cell_count_of_combination k cells = count_cons k x cells ∙ ap (λ b. cond b 1 0 + cell_count_of_combination k cells) other ∙ zero-add (cell_count_of_combination k cells) in
          occurs P k cells (λ i d within. all (suc i) d (omega (arith, within))) (omega (arith, some, fewer))
    ] refl

module _ (maps : List Grid) (picks : List ℕ) where
  wide-row : (row : ℕ) (cols : List ℕ) → All (λ k. length k ≡ length picks)
      (map (combination_at_row_and_column maps picks row) cols)
  wide-row row cols = All-map (λ (k : Combination). length k ≡ length picks) (combination_at_row_and_column maps picks row) cols (λ i d within. length-map picks (cell_of_map_at_place maps row (get_or cols i d)))

  wide-rows : (cols : ℕ) (rows : List ℕ) → All (λ k. length k ≡ length picks) (flat_map (row_combinations maps picks cols) rows)
  wide-rows cols [] = λ i d within. absurd (omega (arith, within))
  wide-rows cols (row ∷ rows) = All-append (λ (k : Combination). length k ≡ length picks) (row_combinations maps picks cols row) (flat_map (row_combinations maps picks cols) rows) (wide-row row (range_with_len 0 cols)) (wide-rows cols rows)

  pub table-wide : (skip : Skip) (rows cols : ℕ) (es : CombinationsWithCounts) → IsTable skip (all_combinations maps picks rows cols) es → All (λ pair. length pair.0 ≡ length picks) es
  table-wide skip rows cols es table i d within =
      let pair = get_or es i d in
      let stands = (table.counted pair.0 pair.1).0 (i, within, get_or-any es i d pair within) in
      occurs (λ (k : Combination). length k ≡ length picks) pair.0 (all_combinations maps picks rows cols) (wide-rows cols (range_with_len 0 rows)) (subst (λ (n : ℕ). 0 < n) stands.1.1 stands.1.0)
    where
      get_or-any : {X : Type 0} (xs : List X) (i : ℕ) (d e : X) → i < length xs → get_or xs i e ≡ get_or xs i d
      get_or-any [] i d e h = absurd (omega (arith, h))
      get_or-any (x ∷ xs) zero d e h = refl
      get_or-any (x ∷ xs) (suc i) d e h = get_or-any xs i d e (omega (arith, h))

-- a property of all elements holds for the elements of a part
pub All-part : {X : Type 0} (P : X → Type 0) (xs : List X) (n i : ℕ) → All P xs → All P (take n (drop i xs))
All-part P xs n i all = All-take P n (drop i xs) (All-drop P i xs all)
