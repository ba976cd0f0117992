-- Each number occurs with only one category, and the entries of a category count its cells.
use Rattle.cell_clumps.proofs.CountLemmas.{clump_numbers_have_no_gaps}
use Rattle.cell_stats_counts.specs.Counts.{cell_count_of_combination}
use Rattle.std.proofs.Common.{◌≡◌, ℕ, zero, suc, ℤ, pos, ◌<◌, [], ◌∷◌, List, length, get_or, Some, None, IsSome, Bool}
use Rattle.std.proofs.Common.{true, false, ◌&&◌, not, take, refl, ap, sym, ◌∙◌, arith}
use Rattle.std.specs.Prelude.{Contains}
use Rattle.std.proofs.Math.Bool.{and-false}
use Rattle.std.specs.Ordering.{eq_by_cmp, is_eq}
use Rattle.std.specs.Cmp.{tied_itself}
use Rattle.cell_core.specs.Grid.{Grid, CellValue, RowsFillRegion}
use Rattle.cell_clumps.specs.declared.clump.Joining.{Joining}
use Rattle.cell_clumps.specs.Clumps.{Position, cell_at_position, IsClumpMapOf}
use Rattle.cell_clumps.proofs.PathLemmas.{AreJoined-first, AreJoined-last}
use Rattle.cell_stats_combinations.specs.declared.skip.Skip.{Skip}
use Rattle.cell_stats_combinations.specs.declared.skip.Skip.TheVariants.{Nothing}
use Rattle.cell_stats_combinations.specs.Combinations.{Combination, combination_cmp, combination_cmp_total}
use Rattle.cell_stats_combinations.specs.LeftOut.{combination_is_left_out}
use Rattle.cell_stats_combinations.proofs.OrderLemmas.{combination_cmp-exact, is_equal}
use Rattle.cell_stats.specs.CategoryTables.{CombinationsWithCounts, IsTable}
use Rattle.cell_clumps.proofs.MeetingLemmas.{some_of}
use Rattle.cell_join_numbers.proofs.ClumpCellLemmas.{is-some}
use Rattle.cell_cats_law.proofs.CountLemmas.{counts-same, counted-cell, entry-at, table-sums}
use Rattle.cell_cats_law.specs.ClumpSizeLaw.{EntryCountsAreClumpSizes, ClumpCountsSumToCategory}
use Rattle.cell_cats_law.specs.ClumpSizeLaw.{NoClumpIsEmpty, cell_pairs_of_maps}

-- ---- cells that are not null

-- a cell with a number is not null in the original map
pub some-below : (j : Joining) (m numbers : Grid) → IsClumpMapOf j m numbers → (p : Position) (v : ℤ) →
    cell_at_position numbers p ≡ Some v → IsSome (cell_at_position m p)
some-below j m numbers is p v e = by (cell_at_position m p) refl
  where
    by : (c : CellValue) → cell_at_position m p ≡ c → IsSome c
    by None none = let null = is.nulls p none in cc
    by (Some w) some = refl

-- a cell without a number is null in the original map
pub none-below : (j : Joining) (m numbers : Grid) → IsClumpMapOf j m numbers → (p : Position) →
    cell_at_position numbers p ≡ None → cell_at_position m p ≡ None
none-below j m numbers is p e = by (cell_at_position m p) refl
  where
    by : (c : CellValue) → cell_at_position m p ≡ c → c ≡ None
    by None none = refl
    by (Some w) some = let number = (is.numbered p (is-some (cell_at_position m p) w some)).2 in cc

-- two cells with the same number, or both without a number, are equal in the original map
pub one-category : (j : Joining) (m numbers : Grid) → IsClumpMapOf j m numbers → (p q : Position) (number : CellValue) →
    cell_at_position numbers p ≡ number → cell_at_position numbers q ≡ number
    → cell_at_position m p ≡ cell_at_position m q
one-category j m numbers is p q None one other = none-below j m numbers is p one
    ∙ sym (none-below j m numbers is q other)
one-category j m numbers is p q (Some v) one other =
    let joined = (is.same p q (some-below j m numbers is p v one) (some-below j m numbers is q v other)).0 (one
    ∙ sym other) in
    AreJoined-first j m p q joined ∙ sym (AreJoined-last j m p q joined)

-- ---- entries of two maps

abbrev pub first-cell : Combination → CellValue
first-cell [] = None
first-cell (c ∷ k) = c

abbrev second-cell : Combination → CellValue
second-cell [] = None
second-cell (c ∷ k) = first-cell k

abbrev grid_position : ℕ → ℕ → Position
grid_position row col = record { row = row; col = col }

-- a position at which an entry of the table of two maps occurs
pub record Stands (one other : Grid) (a b : CellValue) : Type 0 where
  pub at : Position
  pub first : cell_at_position one at ≡ a
  pub second : cell_at_position other at ≡ b

pub stands-at : (one other : Grid) (skip : Skip) (rows cols : ℕ) (table : CombinationsWithCounts) →
    IsTable skip (cell_pairs_of_maps one other rows cols) table → (a b : CellValue) (n : ℕ) →
    Contains table (a ∷ b ∷ [], n) → Stands one other a b
stands-at one other skip rows cols table is a b n stands =
    let found = entry-at skip (one ∷ other ∷ []) (0 ∷ 1 ∷ []) rows cols table is (a ∷ b ∷ []) n stands in
    record { at = grid_position found.0 found.1; first = ap first-cell found.2; second = ap second-cell found.2 }

-- ---- tests with the same result

equal-itself : (a b : Combination) → a ≡ b → eq_by_cmp combination_cmp a b ≡ true
equal-itself a b same = ap (eq_by_cmp combination_cmp a) (sym same) ∙ ap is_eq (tied_itself combination_cmp_total a)

pub tests-same : (a b c d : Combination) → (a ≡ b → c ≡ d) → (c ≡ d → a ≡ b) →
    eq_by_cmp combination_cmp a b ≡ eq_by_cmp combination_cmp c d
tests-same a b c d there back = by (eq_by_cmp combination_cmp a b) (eq_by_cmp combination_cmp c d) refl refl
  where
    by : (x y : Bool) → eq_by_cmp combination_cmp a b ≡ x → eq_by_cmp combination_cmp c d ≡ y → x ≡ y
    by true true e f = refl
    by false false e f = refl
    by true false e f = let too = equal-itself c d (there (combination_cmp-exact a b (is_equal _ e))) in cc
    by false true e f = let too = equal-itself a b (back (combination_cmp-exact c d (is_equal _ f))) in cc

pub entries-are-whole : EntryCountsAreClumpSizes
entries-are-whole j m numbers is skip rows cols table is_table category number n stands =
    let p = stands-at m numbers skip rows cols table is_table category number n stands in
    ((is_table.counted (category ∷ number ∷ []) n).0 stands).1.1
    ∙ counts-same (m ∷ numbers ∷ []) (numbers ∷ []) (0 ∷ 1 ∷ []) (0 ∷ [])
    (eq_by_cmp combination_cmp (category ∷ number ∷ [])) (eq_by_cmp combination_cmp (number ∷ []))
    (λ row col. let q = grid_position row col in
    tests-same (category ∷ number ∷ []) (cell_at_position m q ∷ cell_at_position numbers q ∷ []) (number ∷ [])
    (cell_at_position numbers q ∷ [])
    (λ (e : category ∷ number ∷ [] ≡ cell_at_position m q ∷ cell_at_position numbers q ∷ []). ap (λ (c : CellValue). c ∷ [])
    (ap second-cell e))
    (λ (e : number ∷ [] ≡ cell_at_position numbers q ∷ []).
    let same : number ≡ cell_at_position numbers q = ap first-cell e in
    let one : category ≡ cell_at_position m q = sym p.first
    ∙ one-category j m numbers is p.at q number p.second (sym same) in
    λ i. one i ∷ same i ∷ []))
    rows cols

-- an entry of a category and its number is never left out
kept-number : (skip : Skip) (v n : ℤ) → combination_is_left_out skip (Some v ∷ Some n ∷ []) ≡ false
kept-number Nothing v n = refl
kept-number _ v n = refl

module _ (j : Joining) (m numbers : Grid) (is : IsClumpMapOf j m numbers) (skip : Skip) (category : ℤ) where
  abbrev is-of : Position → Bool
  is-of q = eq_by_cmp combination_cmp (Some category ∷ []) (cell_at_position m q ∷ [])

  abbrev is-left : Position → Bool
  is-left q = combination_is_left_out skip (cell_at_position m q ∷ cell_at_position numbers q ∷ [])

  -- no cell of the category is left out
  kept-of : (q : Position) (b : Bool) → is-of q ≡ b → (not (is-left q) && is-of q) ≡ is-of q
  kept-of q false e = ap (λ b. not (is-left q) && b) e ∙ and-false (not (is-left q)) ∙ sym e
  kept-of q true e =
      let same = combination_cmp-exact (Some category ∷ []) (cell_at_position m q ∷ []) (is_equal _ e) in
      let here : cell_at_position m q ≡ Some category = sym (ap first-cell same) in
      let number = is.numbered q (is-some (cell_at_position m q) category here) in
      let cells : is-left q ≡ combination_is_left_out skip (Some category ∷ Some (pos number.0) ∷ []) =
      λ i. combination_is_left_out skip (here i ∷ number.2 i ∷ []) in
      ap (λ b. not b && is-of q) (cells ∙ kept-number skip category (pos number.0))

pub clumps-divide-their-category : ClumpCountsSumToCategory
clumps-divide-their-category j m numbers is skip rows cols table is_table category =
    let t = λ (k : Combination). eq_by_cmp combination_cmp (Some category ∷ []) (take 1 k) in
    let u = λ (k : Combination). not (combination_is_left_out skip k) && t k in
    let same = λ (row col : ℕ). kept-of j m numbers is skip category (grid_position row col)
    (is-of j m numbers is skip category (grid_position row col)) refl in
    table-sums skip (cell_pairs_of_maps m numbers rows cols) table is_table t
    ∙ counts-same (m ∷ numbers ∷ []) (m ∷ []) (0 ∷ 1 ∷ [])
    (0 ∷ []) u (eq_by_cmp combination_cmp (Some category ∷ [])) same rows cols

-- ---- no clump is empty

in-row : (row : List CellValue) (c : ℕ) (v : ℤ) → get_or row c None ≡ Some v → c < length row
in-row [] c v e = cc
in-row (x ∷ row) zero v e = omega arith
in-row (x ∷ row) (suc c) v e = omega (arith, in-row row c v e)

in-rows : (rows : List (List CellValue)) (r c : ℕ) (v : ℤ) → get_or (get_or rows r []) c None ≡ Some v → r < length rows
in-rows [] r c v e = absurd (omega (arith, in-row [] c v e))
in-rows (row ∷ rows) zero c v e = omega arith
in-rows (row ∷ rows) (suc r) c v e = omega (arith, in-rows rows r c v e)

-- a cell that is not null is in the region
pub in-region : (m : Grid) → RowsFillRegion m.region m.rows → (p : Position) (v : ℤ) → cell_at_position m p ≡ Some v →
    (p.row < m.region.rows) × (p.col < m.region.cols)
in-region m filled p v e =
    let low = in-rows m.rows p.row p.col v e in
    let line = in-row (get_or m.rows p.row []) p.col v e in
    let wide : length (get_or m.rows p.row []) ≡ m.region.cols = filled.width p.row [] low in
    (omega (arith, low, filled.count), omega (arith, line, wide))

pub no-clump-is-empty : NoClumpIsEmpty
no-clump-is-empty j m numbers is filled skip table is_table category last size stands number least most =
    let rows = numbers.region.rows in
    let cols = numbers.region.cols in
    let p = stands-at m numbers skip rows cols table is_table category (Some (pos last)) size stands in
    let all = clump_numbers_have_no_gaps j m numbers is p.at (is-some (cell_at_position numbers p.at)
    (pos last) p.second) in
    let same : all.0 ≡ last = let e = sym all.1 ∙ p.second in cc in
    let occurs = all.3 number least (omega (arith, most, same)) in
    let q = occurs.0 in
    let v = some_of (cell_at_position m q) (some-below j m numbers is q (pos number) occurs.1) in
    let k : Combination = Some v.0 ∷ Some (pos number) ∷ [] in
    let is_k : k ≡ cell_at_position m q ∷ cell_at_position numbers q ∷ [] = λ i. sym v.1 i ∷ sym occurs.1 i ∷ [] in
    let inside = in-region numbers filled q (pos number) occurs.1 in
    let counted = counted-cell (m ∷ numbers ∷ []) (0 ∷ 1 ∷ [])
    (eq_by_cmp combination_cmp k) rows cols q.row q.col inside.0 inside.1
    (equal-itself k (cell_at_position m q ∷ cell_at_position numbers q ∷ []) is_k) in
    let cells = cell_count_of_combination k (cell_pairs_of_maps m numbers rows cols) in
    (v.0, cells, counted, (is_table.counted k cells).1 (kept-number skip v.0 (pos number), (counted, refl)))
