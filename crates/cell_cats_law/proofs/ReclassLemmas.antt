-- The cells of a reclassed map, and their counts.
use Rattle.std.proofs.Common.{◌≡◌, ℕ, zero, suc, ◌<◌, map, [], ◌∷◌, List, get_or, Some, None, Bool, true, false, ◌&&◌}
use Rattle.std.proofs.Common.{not, refl, ap, sym, ◌∙◌, arith, subst}
use Rattle.std.specs.Prelude.{count_by, Contains, All, if◌then◌else◌}
use Rattle.std.proofs.lemmas.List.Elements.{Contains-get_or, All-head, All-tail}
use Rattle.std.specs.Cmp.{tied_itself}
use Rattle.std.specs.Option.{option_map_or, option_map, option_or}
use Rattle.std.specs.Ordering.{eq_by_cmp, is_eq}
use Rattle.cell_core.specs.Grid.{Grid, CellValue, cell_at}
use Rattle.cell_cats.specs.Rule.{RuleValue, lists, is_star_rule, last_element_that_passes, new_cell_of_output}
use Rattle.cell_cats.specs.Rule.{new_category}
use Rattle.cell_cats.specs.Reclass.{reclassed_map, reclassed_row}
use Rattle.cell_stats_combinations.specs.declared.skip.Skip.{Skip}
use Rattle.cell_stats_combinations.specs.declared.skip.Skip.TheVariants.{Nothing, AnyNull, AllNull}
use Rattle.cell_stats_combinations.specs.Combinations.{Combination, combination_cmp, combination_cmp_total}
use Rattle.cell_stats_combinations.specs.Combinations.{cell_of_map_at_place}
use Rattle.cell_stats_combinations.specs.Combinations.{combination_at_row_and_column, all_combinations}
use Rattle.cell_stats_combinations.specs.LeftOut.{combination_is_left_out}
use Rattle.cell_stats_combinations.proofs.OrderLemmas.{combination_cmp-exact, is_equal}
use Rattle.cell_stats_counts.specs.Counts.{cell_count_of_combination}
use Rattle.cell_stats.specs.CategoryTables.{CombinationsWithCounts, IsTable}
use Rattle.cell_cats_law.specs.ReclassLaw.{combination_with_first_reclassed, AreMapAndReclassedMap}
use Rattle.cell_cats_law.specs.ReclassLaw.{ReclassedCountsAreSums}
use Rattle.cell_cats_law.specs.ReclassLaw.{UnlistedCategoryBecomesNull}
use Rattle.cell_cats_law.proofs.CountLemmas.{counts-same, count-alike, table-sums}

-- ---- categories not covered by a rule

last-none : (p : RuleValue → Bool) (rules : List RuleValue) → All (λ rule. p rule ≡ false) rules →
    last_element_that_passes p rules ≡ None
last-none p [] all = refl
last-none p (rule ∷ rules) all =
    ap (λ o. option_or o (if p rule then Some rule else None))
    (last-none p rules (All-tail (λ rule. p rule ≡ false) rule rules all))
    ∙ ap (λ b. if b then Some rule else None) (All-head (λ rule. p rule ≡ false) rule rules all)

pub unnamed-is-null : UnlistedCategoryBecomesNull
unnamed-is-null rules = (
  refl,
  λ x unlisted unstarred.
      let listed = last-none (lists x) rules unlisted in
      let starred = last-none is_star_rule rules unstarred in
      λ i. new_cell_of_output x (option_or (option_map (λ rule. rule.output) (listed i))
      (option_map (λ rule. rule.output) (starred i))),
)

-- ---- the cells of a reclassed map

-- an item of a mapped list is the mapped item, even past the end of the list
map-at : {X Y : Type 0} (f : X → Y) (xs : List X) (i : ℕ) (d : X) → get_or (map f xs) i (f d) ≡ f (get_or xs i d)
map-at f [] i d = refl
map-at f (x ∷ xs) zero d = refl
map-at f (x ∷ xs) (suc i) d = map-at f xs i d

cell-reclassed : (rules : List RuleValue) (given : Grid) (row col : ℕ) →
    cell_at (reclassed_map rules given) row col ≡ new_category rules (cell_at given row col)
cell-reclassed rules given row col =
    ap (λ (l : List CellValue). get_or l col None) (map-at (reclassed_row rules) given.rows row [])
    ∙ map-at (new_category rules) (get_or given.rows row []) col None

module _ (rules : List RuleValue) (maps : List Grid) (old new : ℕ) (is : AreMapAndReclassedMap rules maps old new) where
  cell-sent : (row col : ℕ) → cell_of_map_at_place maps row col new
      ≡ new_category rules (cell_of_map_at_place maps row col old)
  cell-sent row col =
      ap (λ o. option_map_or (λ m. cell_at m row col) o None) is.second
      ∙ cell-reclassed rules is.given row col
      ∙ ap (new_category rules) (sym (ap (λ o. option_map_or (λ m. cell_at m row col) o None) is.first))

  pub combination-sent : (others : List ℕ) (row col : ℕ) →
      combination_at_row_and_column maps (new ∷ others) row col
      ≡ combination_with_first_reclassed rules (combination_at_row_and_column maps (old
      ∷ others) row col)
  combination-sent others row col = ap (λ (c : CellValue). c ∷ combination_at_row_and_column maps others row col)
      (cell-sent row col)

  -- a combination of the new map counts the combinations of the old map that the rules send to it
  pub count-sent : (others : List ℕ) (rows cols : ℕ) (to : Combination) →
      cell_count_of_combination to (all_combinations maps (new ∷ others) rows cols)
      ≡ count_by (λ k. eq_by_cmp combination_cmp to (combination_with_first_reclassed rules k))
      (all_combinations maps (old
      ∷ others) rows cols)
  count-sent others rows cols to =
      counts-same maps maps (new ∷ others) (old ∷ others) (eq_by_cmp combination_cmp to)
      (λ k. eq_by_cmp combination_cmp to (combination_with_first_reclassed rules k))
      (λ row col. ap (eq_by_cmp combination_cmp to) (combination-sent others row col)) rows cols

-- a combination is kept if the rules send it to one that is kept
kept-before : (skip : Skip) (rules : List RuleValue) (k : Combination)
    → combination_is_left_out skip (combination_with_first_reclassed rules k) ≡ false →
    combination_is_left_out skip k ≡ false
kept-before Nothing rules k kept = refl
kept-before AnyNull rules [] kept = refl
kept-before AnyNull rules (None ∷ k) kept = kept
kept-before AnyNull rules (Some v ∷ k) kept = later (new_category rules (Some v)) kept
  where
    later : (c : CellValue) → combination_is_left_out AnyNull (c ∷ k) ≡ false
        → combination_is_left_out AnyNull (Some v ∷ k) ≡ false
    later None kept = cc
    later (Some w) kept = kept
kept-before AllNull rules [] kept = kept
kept-before AllNull rules (None ∷ k) kept = kept
kept-before AllNull rules (Some v ∷ k) kept = refl

kept-sent : (skip : Skip) (rules : List RuleValue) (to k : Combination) → combination_is_left_out skip to ≡ false
    → (b : Bool) →
    eq_by_cmp combination_cmp to (combination_with_first_reclassed rules k) ≡ b
    → b ≡ (not (combination_is_left_out skip k) && b)
kept-sent skip rules to k kept true same =
    let is : to ≡ combination_with_first_reclassed rules k = combination_cmp-exact to
    (combination_with_first_reclassed rules k)
    (is_equal _ same) in
    let before : combination_is_left_out skip k ≡ false = kept-before skip rules k (ap (combination_is_left_out skip)
    (sym is) ∙ kept) in
    ap (λ b. not b && true) (sym before)
kept-sent skip rules to k kept false same = by (combination_is_left_out skip k)
  where
    by : (b : Bool) → false ≡ (not b && false)
    by true = refl
    by false = refl

pub reclass-keeps-cells : ReclassedCountsAreSums
reclass-keeps-cells rules maps old new is others rows cols skip table is_table to kept =
    let cells = all_combinations maps (old ∷ others) rows cols in
    let t = λ (k : Combination). eq_by_cmp combination_cmp to (combination_with_first_reclassed rules k) in
    count-sent rules maps old new is others rows cols to
    ∙ count-alike t (λ k. not (combination_is_left_out skip k) && t k) cells (λ i d within.
    kept-sent skip rules to (get_or cells i d) kept (t (get_or cells i d)) refl)
    ∙ sym (table-sums skip cells table is_table t)

-- ---- rules that only rename categories
