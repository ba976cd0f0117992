-- Counts of parts add up, and fit in 64 bits.
use Rattle.std.proofs.Common.{◌≡◌, ℕ, zero, suc, ◌+◌, ◌^◌, ◌<◌, ◌≤◌, List, [], ◌∷◌, ◌++◌, map, replicate}
use Rattle.std.proofs.Common.{Bool, true, false, not, cond, refl, ap, ◌∙◌, arith, length-append, add-zero, mul-le-mul}
use Rattle.std.proofs.lemmas.List.Elements.{filter-append}
use Rattle.std.proofs.lemmas.List.FromFn.{length-map-range_with_len}
use Rattle.std.proofs.lemmas.List.Sums.{sum_by-append, count_by-le-length, length-filter}
use Rattle.std.specs.List.{range_with_len}
use Rattle.std.specs.Ordering.{eq_by_cmp}
use Rattle.cell_core.specs.Grid.{Grid}
use Rattle.cell_stats_combinations.specs.declared.skip.Skip.{Skip}
use Rattle.cell_stats_combinations.specs.Combinations.{Combination, combination_cmp, combination_at_row_and_column}
use Rattle.cell_stats_combinations.specs.Combinations.{all_combinations}
use Rattle.cell_stats_combinations.specs.LeftOut.{kept_cells, combination_is_left_out}
use Rattle.cell_stats_combinations.specs.parts.Same.{are_same_combination}
use Rattle.cell_stats_combinations.proofs.WalkLemmas.{kept-replicate, length_all}
use Rattle.cell_stats_counts.specs.Counts.{cell_count_of_combination}

pub count-append : (k : Combination) (xs ys : List Combination)
    → cell_count_of_combination k (xs ++ ys) ≡ cell_count_of_combination k xs + cell_count_of_combination k ys
count-append k xs ys = sum_by-append (λ (x : Combination). cond (eq_by_cmp combination_cmp k x) 1 0) xs ys

pub count-replicate : (k q : Combination) (n : ℕ) → cell_count_of_combination k (replicate n q)
    ≡ cond (are_same_combination k q) n 0
count-replicate k q zero = by (are_same_combination k q)
  where
    by : (b : Bool) → ◌≡◌ {A = ℕ} 0 (cond b 0 0)
    by true = refl
    by false = refl
count-replicate k q (suc n) = count-append k (q ∷ []) (replicate n q)
    ∙ by (are_same_combination k q) refl (count-replicate k q n)
  where
    by : (b : Bool) → are_same_combination k q ≡ b → cell_count_of_combination k (replicate n q)
        ≡ cond (are_same_combination k q) n 0 → cell_count_of_combination k (q ∷ []) + cell_count_of_combination k
        (replicate n q) ≡ cond (are_same_combination k q) (suc n) 0
    by true e on = rw e (ap (λ m. 1 + m) (on ∙ ap (λ b. cond b n 0) e) ∙ omega arith)
    by false e on = rw e (ap (λ m. 0 + m) (on ∙ ap (λ b. cond b n 0) e))

-- the count in two parts is the sum of their counts
pub count-both : (skip : Skip) (k : Combination) (xs ys : List Combination)
    → cell_count_of_combination k (kept_cells skip (xs ++ ys))
    ≡ cell_count_of_combination k (kept_cells skip xs) + cell_count_of_combination k (kept_cells skip ys)
count-both skip k xs ys = ap (cell_count_of_combination k) (filter-append
    (λ x. not (combination_is_left_out skip x)) xs ys) ∙ count-append k (kept_cells skip xs) (kept_cells skip ys)

-- the count in a stretch of one combination is 0 if it is left out or is another, otherwise its length
pub count-stretch : (skip : Skip) (k q : Combination) (n : ℕ) (b : Bool) → combination_is_left_out skip q ≡ b
    → cell_count_of_combination k (kept_cells skip (replicate n q)) ≡ cond b 0 (cond (are_same_combination k q) n 0)
count-stretch skip k q n true l = ap (cell_count_of_combination k) (kept-replicate skip q n true l)
count-stretch skip k q n false l = ap (cell_count_of_combination k) (kept-replicate skip q n false l)
    ∙ count-replicate k q n

module _ (skip : Skip) (k q : Combination) (n : ℕ) (xs : List Combination) where
  -- a combination that is left out adds nothing
  pub count-left : combination_is_left_out skip q ≡ true
      → cell_count_of_combination k (kept_cells skip (xs ++ replicate n q))
      ≡ cell_count_of_combination k (kept_cells skip xs)
  count-left l =
      count-both skip k xs (replicate n q)
      ∙ ap (λ m. cell_count_of_combination k (kept_cells skip xs) + m) (count-stretch skip k q n true l)
      ∙ add-zero (cell_count_of_combination k (kept_cells skip xs))

  -- a combination that is kept adds its cells
  pub count-more : combination_is_left_out skip q ≡ false → cell_count_of_combination k (kept_cells skip (xs
      ++ replicate n q))
      ≡ cell_count_of_combination k (kept_cells skip xs) + cond (are_same_combination k q) n 0
  count-more l =
      count-both skip k xs (replicate n q)
      ∙ ap (λ m. cell_count_of_combination k (kept_cells skip xs) + m) (count-stretch skip k q n false l)

module _ (maps : List Grid) (picks : List ℕ) (cols : ℕ) where
  -- the count in the cells so far is less than 2^63
  pub count_small : (skip : Skip) (k : Combination) (r c : ℕ) → r ≤ 65535 → c ≤ 65535 → cols ≤ 65535
      → cell_count_of_combination k (kept_cells skip (all_combinations maps picks r cols
      ++ map (combination_at_row_and_column maps picks r) (range_with_len 0 c))) < 2 ^ 63
  count_small skip k r c hr hc hcols =
      let m = mul-le-mul hr hcols in
      let cells = all_combinations maps picks r cols ++ map (combination_at_row_and_column maps picks r)
      (range_with_len 0 c) in
      let counted = count_by-le-length (eq_by_cmp combination_cmp k) (kept_cells skip cells) in
      let fewer = count_by-le-length (λ x. not (combination_is_left_out skip x)) cells in
      let kept = length-filter (λ x. not (combination_is_left_out skip x)) cells in
      let before = all_combinations maps picks r cols in
      let both = length-append before (map (combination_at_row_and_column maps picks r) (range_with_len 0 c)) in
      let row = length-map-range_with_len (combination_at_row_and_column maps picks r) 0 c in
      omega (arith, m, counted, fewer, kept, both, length_all maps picks cols r, row)
