-- The effect of one map's runs on the counts.
use Rattle.std.proofs.Common.{◌≡◌, ℕ, zero, suc, ◌+◌, ◌^◌, ◌<◌, ◌≤◌, List, [], ◌∷◌, ◌++◌, length, map, replicate, get_or, Bool, true, false, cond, Some, None, refl, ap, sym, ◌∙◌, arith, append-nil, length-append, add-one, add-zero, zero-add}
use Rattle.std.proofs.lemmas.List.{length-replicate, map-append}
use Rattle.std.specs.List.{range_with_len}
use Rattle.std.specs.Prelude.{slice_get}
use Rattle.cell_core.specs.Grid.{Grid, CellValue, row_at}
use Rattle.cell_core.specs.Runs.{RunValue, cells_of_runs}
use Rattle.cell_stats_combinations.specs.declared.skip.Skip.{Skip}
use Rattle.cell_stats_combinations.specs.Combinations.{Combination, combination_at_row_and_column, all_combinations}
use Rattle.cell_stats_combinations.specs.Combinations.{row_combinations}
use Rattle.cell_stats_counts.specs.Counts.{cell_count_of_combination}
use Rattle.cell_stats_counts.specs.parts.Alone.{combination_of_one_cell}
use Rattle.cell_stats_combinations.specs.Cursors.{row_of_map_at_place}
use Rattle.cell_stats_combinations.specs.parts.Same.{are_same_combination}
use Rattle.cell_stats_combinations.specs.LeftOut.{kept_cells, combination_is_left_out}
use Rattle.cell_stats_combinations.proofs.CursorLemmas.{row-of}
use Rattle.cell_stats_combinations.proofs.WalkLemmas.{cell-row, all_combinations_more}
use Rattle.cell_stats_counts.proofs.CountLemmas.{count-both, count-stretch, count_small}

map-replicate : (n : ℕ) (x : CellValue) → map combination_of_one_cell (replicate n x)
    ≡ replicate n (combination_of_one_cell x)
map-replicate zero x = refl
map-replicate (suc n) x = ap (λ (l : List Combination). combination_of_one_cell x ∷ l) (map-replicate n x)

-- the number of cells of a combination in some runs, without those that are left out
abbrev pub runs-count : Skip → Combination → List RunValue → ℕ
runs-count skip k runs = cell_count_of_combination k (kept_cells skip
    (map combination_of_one_cell (cells_of_runs runs)))

-- the count in runs is the count in the first run plus the count in the others
pub runs-first : (skip : Skip) (k : Combination) (x : CellValue) (n : ℕ) (rest : List RunValue) (b : Bool)
    → combination_is_left_out skip (combination_of_one_cell x) ≡ b
    → runs-count skip k ((x, n) ∷ rest) ≡ cond b 0 (cond (are_same_combination k (combination_of_one_cell x)) n 0)
    + runs-count skip k rest
runs-first skip k x n rest b l =
    ap (λ (z : List Combination). cell_count_of_combination k (kept_cells skip z)) (map-append combination_of_one_cell
    (replicate n x) (cells_of_runs rest) ∙ ap (λ (z : List Combination). z
    ++ map combination_of_one_cell (cells_of_runs rest)) (map-replicate n x))
    ∙ count-both skip k (replicate n (combination_of_one_cell x)) (map combination_of_one_cell (cells_of_runs rest))
    ∙ ap (λ m. m + runs-count skip k rest) (count-stretch skip k (combination_of_one_cell x) n b l)

pub length-first : (x : CellValue) (n : ℕ) (rest : List RunValue)
    → length (cells_of_runs ((x, n) ∷ rest)) ≡ n + length (cells_of_runs rest)
length-first x n rest = length-append (replicate n x) (cells_of_runs rest)
    ∙ ap (λ m. m + length (cells_of_runs rest)) (length-replicate n x)

cond-le : (b : Bool) (n : ℕ) → cond b n 0 ≤ n
cond-le true n = omega arith
cond-le false n = omega arith

module _ (skip : Skip) (k : Combination) (runs rest : List RunValue) (x : CellValue) (n : ℕ) (steps : runs ≡ (x, n) ∷ rest) where
  size : length (cells_of_runs runs) ≡ n + length (cells_of_runs rest)
  size = ap (λ (l : List RunValue). length (cells_of_runs l)) steps ∙ length-first x n rest

  -- a run that is left out adds nothing
  pub run-left : (old all : ℕ) → combination_is_left_out skip (combination_of_one_cell x) ≡ true
      → old + runs-count skip k runs ≡ all → old + runs-count skip k rest ≡ all
  run-left old all l e =
      let first : runs-count skip k runs ≡ 0 + runs-count skip k rest = ap (runs-count skip k) steps ∙ runs-first skip k x n rest true l in
      omega (arith, e, first)

  -- a run that is kept adds its cells
  pub run-more : (old new all : ℕ) → combination_is_left_out skip (combination_of_one_cell x) ≡ false
      → new ≡ old + cond (are_same_combination k (combination_of_one_cell x)) n 0 → old + runs-count skip k runs ≡ all
      → new + runs-count skip k rest ≡ all
  run-more old new all l grown e =
      let first : runs-count skip k runs ≡ cond (are_same_combination k (combination_of_one_cell x)) n 0
      + runs-count skip k rest = ap (runs-count skip k) steps ∙ runs-first skip k x n rest false l in
      omega (arith, e, first, grown)

  pub room-left : (old most : ℕ) → old + length (cells_of_runs runs) < most → old + length (cells_of_runs rest) < most
  room-left old most h = omega (arith, h, size)

  pub room-more : (old new most : ℕ) → new ≡ old + cond (are_same_combination k (combination_of_one_cell x)) n 0
      → old + length (cells_of_runs runs) < most → new + length (cells_of_runs rest) < most
  room-more old new most grown h = omega (
    arith,
    h,
    size,
    grown,
    cond-le
        (are_same_combination k (combination_of_one_cell x)) n,
  )

  pub room-first : (old most : ℕ) → old + length (cells_of_runs runs) < most → old + n < most
  room-first old most h = omega (arith, h, size)

-- ---- a row of one map

row-get : (l : List CellValue) (a : ℕ) (f : ℕ → Combination) → ((j : ℕ)
    → f (a + j) ≡ combination_of_one_cell (get_or l j None)) → map f (range_with_len a (length l))
    ≡ map combination_of_one_cell l
row-get [] a f h = refl
row-get (x ∷ l) a f h =
    let here : f a ≡ combination_of_one_cell x = ap f (sym (add-zero a)) ∙ h 0 in
    let behind : (j : ℕ) → f (a + 1 + j) ≡ combination_of_one_cell (get_or l j None) = λ j. ap f (next j) ∙ h (suc j) in
    ap (λ (y : Combination). y ∷ map f (range_with_len (a + 1) (length l))) here
    ∙ ap (λ (t : List Combination). combination_of_one_cell x ∷ t) (row-get l (a + 1) f behind)
  where
    next : (j : ℕ) → a + 1 + j ≡ a + suc j
    next j = omega arith

row-alone : (maps : List Grid) (row p cols : ℕ) → length (row_of_map_at_place maps row p) ≡ cols
    → row_combinations maps (p ∷ []) cols row ≡ map combination_of_one_cell (row_of_map_at_place maps row p)
row-alone maps row p cols wide =
    ap (λ n. map (combination_at_row_and_column maps (p ∷ []) row) (range_with_len 0 n)) (sym wide)
    ∙ row-get (row_of_map_at_place maps row p) 0 (combination_at_row_and_column maps (p ∷ []) row)
    (λ j. ap (combination_at_row_and_column maps (p
    ∷ []) row) (zero-add j) ∙ ap combination_of_one_cell (cell-row maps row j p))

-- one more row of one map is counted
pub counted-alone : (skip : Skip) (k : Combination) (maps : List Grid) (picks : List ℕ) (row p cols : ℕ) (m : Grid)
    (old new : ℕ) → picks ≡ p ∷ [] → slice_get maps p ≡ Some m → length (row_at m row) ≡ cols
    → old ≡ cell_count_of_combination k (kept_cells skip (all_combinations maps picks row cols))
    → new ≡ old + cell_count_of_combination k (kept_cells skip (map combination_of_one_cell (row_at m row)))
    → new ≡ cell_count_of_combination k (kept_cells skip (all_combinations maps picks (row + 1) cols))
counted-alone skip k maps picks row p cols m old new sole e wide was grown =
    let base = all_combinations maps picks row cols in
    let same : row_of_map_at_place maps row p ≡ row_at m row = row-of maps row p m e in
    let line : map combination_of_one_cell (row_at m row) ≡ row_combinations maps picks cols row =
    ap (map combination_of_one_cell) (sym same) ∙ sym (row-alone maps row p cols (ap length same ∙ wide))
    ∙ ap (λ (l : List ℕ). row_combinations maps l cols row) (sym sole) in
    grown ∙ ap (λ n. n + cell_count_of_combination k (kept_cells skip (map combination_of_one_cell (row_at m row)))) was
    ∙ ap (λ (l : List Combination). cell_count_of_combination k (kept_cells skip base) + cell_count_of_combination k
    (kept_cells skip l)) line
    ∙ sym (count-both skip k base (row_combinations maps picks cols row))
    ∙ ap (λ (l : List Combination). cell_count_of_combination k (kept_cells skip l))
    (sym (all_combinations_more maps picks cols row))
    ∙ ap (λ r. cell_count_of_combination k (kept_cells skip (all_combinations maps picks r cols))) (sym (add-one row))

-- the count in the rows above a row is less than 2^63
pub few-alone : (skip : Skip) (k : Combination) (maps : List Grid) (picks : List ℕ) (row cols old : ℕ)
    → row ≤ 65535 → cols ≤ 65535 → old ≡ cell_count_of_combination k
    (kept_cells skip (all_combinations maps picks row cols)) → old < 2 ^ 63
few-alone skip k maps picks row cols old hr hc was =
    let base = all_combinations maps picks row cols in
    let none : 0 ≤ 65535 = omega arith in
    let small = count_small maps picks cols skip k row 0 hr none hc in
    let same : cell_count_of_combination k (kept_cells skip (base ++ []))
    ≡ cell_count_of_combination k (kept_cells skip base) =
    ap (λ (l : List Combination). cell_count_of_combination k (kept_cells skip l)) (append-nil base) in
    omega (arith, small, same, was)

-- the cells of the row still fit in the count
pub fits-alone : (skip : Skip) (k : Combination) (maps : List Grid) (picks : List ℕ) (row cols old size : ℕ)
    → row ≤ 65535 → cols ≤ 65535 → old ≡ cell_count_of_combination k
    (kept_cells skip (all_combinations maps picks row cols)) → size ≡ cols → old + size < 2 ^ 64
fits-alone skip k maps picks row cols old size hr hc was wide =
    omega (arith, few-alone skip k maps picks row cols old hr hc was, wide, hc)
