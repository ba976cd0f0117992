-- The tables of parts merge into the table of the full maps.
use Rattle.std.proofs.Common.{◌≡◌, ◌↔◌, ℕ, zero, suc, List, [], ◌∷◌, map, Bool, true, false, cond, unwrap_or, refl, ap, sym, ◌∙◌, arith}
use Rattle.std.specs.Prelude.{sum_by}
use Rattle.cell_stats_combinations.specs.declared.skip.Skip.{Skip}
use Rattle.cell_stats_combinations.specs.Combinations.{Combination, all_combinations}
use Rattle.cell_stats_combinations.specs.LeftOut.{kept_cells, combination_is_left_out}
use Rattle.cell_stats_counts.specs.Counts.{cell_count_of_combination}
use Rattle.cell_stats.specs.CategoryTables.{CombinationsWithCounts, IsTable, table_of_cells}
use Rattle.cell_stats.proofs.TableLemmas.{IsFound-from, kept-IsTable, IsTable-kept, table_of-IsTable, found, count_kept}
use Rattle.cell_join_numbers.specs.TableParts.{combinations_of_tile, combination_count_in_table, IsMergeOfTables}
use Rattle.cell_join_numbers.specs.TableParts.{MergedTileTablesAreFullTable}
use Rattle.cell_join_numbers.proofs.SumLemmas.{sum-cons, parts-add-up}

found-or : (n : ℕ) → unwrap_or (found n) 0 ≡ n
found-or zero = refl
found-or (suc n) = refl

-- the count of a combination in a table is its count among the cells that are kept
beside : (skip : Skip) (cells : List Combination) (es : CombinationsWithCounts) → IsTable skip cells es → (k : Combination) → combination_count_in_table k es ≡ cell_count_of_combination k (kept_cells skip cells)
beside skip cells es table k =
    ap (λ o. unwrap_or o 0) ((IsFound-from (kept_cells skip cells) es (kept-IsTable skip cells es table)).finds k) ∙ found-or (cell_count_of_combination k (kept_cells skip cells))

kept-sum : (skip : Skip) (whole : List Combination) (k : Combination) {X : Type 0} (cells : X → List Combination) (parts : List X) → cell_count_of_combination k whole ≡ sum_by (λ part. cell_count_of_combination k (cells part)) parts → cell_count_of_combination k (kept_cells skip whole) ≡ sum_by (λ part. cell_count_of_combination k (kept_cells skip (cells part))) parts
kept-sum skip whole k {X} cells parts sum = count_kept skip k whole ∙ by (combination_is_left_out skip k) refl
  where
    out : combination_is_left_out skip k ≡ true → (parts : List X)
        → sum_by (λ part. cell_count_of_combination k (kept_cells skip (cells part))) parts ≡ 0
    out left [] = refl
    out left (part ∷ parts) =
        let here : cell_count_of_combination k (kept_cells skip (cells part)) ≡ 0 = count_kept skip k (cells part) ∙ ap (λ b. cond b 0 (cell_count_of_combination k (cells part))) left in
        omega (
          arith,
          sum-cons (λ part. cell_count_of_combination k
              (kept_cells skip (cells part))) part parts,
          here,
          out left parts,
        )

    in_ : combination_is_left_out skip k ≡ false → (parts : List X) → sum_by (λ part. cell_count_of_combination k (kept_cells skip (cells part))) parts ≡ sum_by (λ part. cell_count_of_combination k (cells part)) parts
    in_ left [] = refl
    in_ left (part ∷ parts) =
        let here : cell_count_of_combination k (kept_cells skip (cells part)) ≡ cell_count_of_combination k (cells part) = count_kept skip k (cells part) ∙ ap (λ b. cond b 0 (cell_count_of_combination k (cells part))) left in
        omega (arith, sum-cons (λ part. cell_count_of_combination k (kept_cells skip (cells part))) part parts, sum-cons (λ part. cell_count_of_combination k (cells part)) part parts, here, in_ left parts)

    by : (b : Bool) → combination_is_left_out skip k ≡ b → cond b 0 (cell_count_of_combination k whole) ≡ sum_by (λ part. cell_count_of_combination k (kept_cells skip (cells part))) parts
    by true left = sym (out left parts)
    by false left = sum ∙ sym (in_ left parts)

-- the counts of a combination in the tables of parts are its counts in the cells of those parts
beside-all : (skip : Skip) (k : Combination) {X : Type 0} (cells : X → List Combination) (parts : List X) → sum_by (combination_count_in_table k) (map (λ part. table_of_cells skip (cells part)) parts) ≡ sum_by (λ part. cell_count_of_combination k (kept_cells skip (cells part))) parts
beside-all skip k cells [] = refl
beside-all skip k cells (part ∷ parts) =
    let here : combination_count_in_table k (table_of_cells skip (cells part)) ≡ cell_count_of_combination k (kept_cells skip (cells part)) = beside skip (cells part) (table_of_cells skip (cells part)) (table_of-IsTable skip (cells part)) k in
    omega (
      arith,
      sum-cons (combination_count_in_table k) (table_of_cells skip (cells part))
          (map (λ part. table_of_cells skip (cells part)) parts),
      sum-cons (λ part. cell_count_of_combination k (kept_cells skip (cells part))) part parts,
      here,
      beside-all skip k cells parts,
    )

-- if the counts of the parts add up, their tables merge into the table of the full map
merge-from : (skip : Skip) (whole : List Combination) {X : Type 0} (cells : X → List Combination) (parts : List X) → ((k : Combination) → cell_count_of_combination k whole ≡ sum_by (λ part. cell_count_of_combination k (cells part)) parts) → (pairs : CombinationsWithCounts) → IsMergeOfTables (map (λ part. table_of_cells skip (cells part)) parts) pairs ↔ IsTable skip whole pairs
merge-from skip whole cells parts adds pairs =
    let sum : (k : Combination) → sum_by (combination_count_in_table k) (map (λ part. table_of_cells skip (cells part)) parts) ≡ cell_count_of_combination k (kept_cells skip whole) = λ k.
    beside-all skip k cells parts ∙ sym (kept-sum skip whole k cells parts (adds k)) in (
      λ merge. IsTable-kept skip whole pairs (record {
        ascending = merge.ascending;
        counted = λ k n.
            let h = merge.counted k n in
            (λ c. let both = h.0 c in (both.0, both.1 ∙ sum k), λ p. h.1 (p.0, p.1 ∙ sym (sum k)));
      }),
      λ table.
          let tally = kept-IsTable skip whole pairs table in
          record {
            ascending = tally.ascending;
            counted = λ k n.
                let h = tally.counted k n in
                (λ c. let both = h.0 c in (both.0, both.1 ∙ sym (sum k)), λ p. h.1 (p.0, p.1 ∙ sum k));
          },
    )

pub tables-merge : MergedTileTablesAreFullTable
tables-merge rows cols whole parts are picks skip pairs =
    merge-from skip (all_combinations whole picks rows cols) (combinations_of_tile picks) parts (λ k. parts-add-up rows cols whole parts are picks k) pairs
