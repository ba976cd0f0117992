-- The cells of a map of values follow from the combinations of the maps that it is computed from.
use Rattle.std.proofs.Common.{◌≡◌, ℕ, zero, suc, ◌+◌, ◌<◌, List, [], ◌∷◌, ◌++◌, map, cond, refl, ap, sym, ◌∙◌, arith}
use Rattle.std.specs.Prelude.{count_by}
use Rattle.std.specs.List.{flat_map, range_with_len}
use Rattle.std.specs.Ordering.{eq_by_cmp, is_eq, ordering_then}
use Rattle.std.specs.declared.cmp.Ordering.{Ordering}
use Rattle.std.specs.declared.cmp.Ordering.TheVariants.{Less, Equal}
use Rattle.std.proofs.lemmas.List.{map-append}
use Rattle.cell_core.specs.Grid.{CellValue}
use Rattle.cell_core_values.specs.Cell.{compare_cells_null_last, cell_eq}
use Rattle.cell_calc_language.specs.Applied.{grid_position}
use Rattle.cell_stats_combinations.specs.Combinations.{Combination, combination_cmp, combination_at_row_and_column}
use Rattle.cell_stats_counts.specs.Counts.{cell_count_of_combination}
use Rattle.cell_stats.proofs.TableLemmas.{count_cons}
use Rattle.rcell_plan.specs.LocalLaw.{cells_as_combinations, combinations_of_picked_maps, ValueCountSumsCombinations}
use Rattle.rcell_plan.proofs.TallyLemmas.{table-counts}
use Rattle.cell_join_numbers.proofs.SumLemmas.{sum-cons}

-- ---- combinations of all cells, each a function of other combinations

module _ (g : Combination → Combination) (made given : ℕ → ℕ → Combination) where
  row-mapped : (row a n : ℕ) → ((col : ℕ) → col < a + n → made row col ≡ g (given row col))
      → map (made row) (range_with_len a n) ≡ map g (map (given row) (range_with_len a n))
  row-mapped row a zero same = refl
  row-mapped row a (suc n) same =
      ap (λ (k : Combination). k ∷ map (made row) (range_with_len (a + 1) n)) (same a (omega arith))
      ∙ ap (λ (l : List Combination). g (given row a) ∷ l)
      (row-mapped row (a + 1) n (λ col lt. same col (omega (arith, lt))))

  abbrev rows-of : (ℕ → ℕ → Combination) → (cols a n : ℕ) → List Combination
  rows-of cells cols a n = flat_map (λ row. map (cells row) (range_with_len 0 cols)) (range_with_len a n)

  pub all-mapped : (cols a n : ℕ) → ((row col : ℕ) → row < a + n → col < cols → made row col ≡ g (given row col))
      → rows-of made cols a n ≡ map g (rows-of given cols a n)
  all-mapped cols a zero same = refl
  all-mapped cols a (suc n) same =
      let first = row-mapped a 0 cols (λ col lt. same a col (omega arith) (omega (arith, lt))) in
      let others = all-mapped cols (a + 1) n (λ row col row_lt col_lt. same row col (omega (arith, row_lt)) col_lt) in
      ap (λ l. l ++ rows-of made cols (a + 1) n) first
      ∙ ap (λ l. map g (map (given a) (range_with_len 0 cols)) ++ l) others
      ∙ sym (map-append g (map (given a) (range_with_len 0 cols)) (rows-of given cols (a + 1) n))

-- ---- counts of one map

one-eq : (v w : CellValue) → eq_by_cmp combination_cmp (v ∷ []) (w ∷ []) ≡ cell_eq v w
one-eq v w = by (compare_cells_null_last v w)
  where
    by : (o : Ordering) → is_eq (ordering_then o Equal) ≡ is_eq o
    by Less = refl
    by _ = refl

count-mapped : (given : Combination → CellValue) (v : CellValue) (cells : List Combination)
    → cell_count_of_combination (v ∷ []) (map (λ k. given k ∷ []) cells) ≡ count_by (λ k. cell_eq v (given k)) cells
count-mapped given v [] = refl
count-mapped given v (k ∷ cells) =
    count_cons (v ∷ []) (given k ∷ []) (map (λ k. given k ∷ []) cells)
    ∙ ap (λ b. cond b 1 0 + cell_count_of_combination (v ∷ []) (map (λ k. given k ∷ []) cells)) (one-eq v (given k))
    ∙ ap (λ n. cond (cell_eq v (given k)) 1 0 + n) (count-mapped given v cells)
    ∙ sym (sum-cons (λ (k : Combination). cond (cell_eq v (given k)) 1 0) k cells)

pub counts-follow : ValueCountSumsCombinations
counts-follow f picks given gives shelf x are v =
    let rows = shelf.region.rows in
    let cols = shelf.region.cols in
    let old = combination_at_row_and_column shelf.maps picks in
    let cells : cells_as_combinations shelf.region x ≡ map (λ k. given k
    ∷ []) (combinations_of_picked_maps shelf picks) =
    all-mapped (λ k. given k ∷ []) (combination_at_row_and_column (x ∷ []) (0 ∷ [])) old cols 0 rows
    (λ row col row_lt col_lt.
    let value = are.cells row col (omega (arith, row_lt)) col_lt ∙ gives shelf.maps (grid_position shelf.region row col) in
    ap (λ (c : CellValue). c ∷ []) value) in
    ap (cell_count_of_combination (v ∷ [])) cells
    ∙ count-mapped given v (combinations_of_picked_maps shelf picks)
    ∙ sym (table-counts (λ k. cell_eq v (given k)) (combinations_of_picked_maps shelf picks))
