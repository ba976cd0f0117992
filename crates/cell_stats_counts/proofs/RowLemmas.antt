-- Counting the cells of a row one by one.
use Rattle.std.proofs.Common.{◌≡◌, ℕ, zero, suc, ◌+◌, ◌<◌, ◌≤◌, List, [], ◌∷◌, length, drop, map, get_or, Bool, true}
use Rattle.std.proofs.Common.{false, cond, Some, None, refl, ap, sym, ◌∙◌, arith, add-one, add-zero, zero-add}
use Rattle.std.proofs.lemmas.List.{drop_more}
use Rattle.std.proofs.Math.ListN.{drop_of_length-le}
use Rattle.std.specs.List.{range_with_len}
use Rattle.std.specs.Prelude.{slice_get}
use Rattle.cell_core.specs.Grid.{Grid, CellValue, row_at}
use Rattle.cell_stats_combinations.specs.declared.skip.Skip.{Skip}
use Rattle.cell_stats_combinations.specs.Combinations.{Combination, cell_of_map_at_place, combination_at_row_and_column}
use Rattle.cell_stats_combinations.specs.Combinations.{all_combinations}
use Rattle.cell_stats_combinations.specs.Combinations.{row_combinations}
use Rattle.cell_stats_counts.specs.Counts.{cell_count_of_combination}
use Rattle.cell_stats_combinations.specs.Cursors.{row_of_map_at_place}
use Rattle.cell_stats_combinations.specs.parts.Same.{are_same_combination}
use Rattle.cell_stats_counts.specs.parts.Alone.{combination_of_one_cell}
use Rattle.cell_stats_counts.specs.parts.RowCells.{combinations_of_two_rows, combination_cell_count_from_column}
use Rattle.cell_stats_combinations.specs.LeftOut.{kept_cells, combination_is_left_out}
use Rattle.cell_stats_counts.proofs.CountLemmas.{count-both, count-stretch}
use Rattle.cell_stats_combinations.proofs.WalkLemmas.{all_combinations_more, cell-row}
use Rattle.cell_stats_combinations.proofs.CursorLemmas.{row-of}

-- the count from a column is the cell there and the count after it
pub combination_cell_count_from_column-step : (skip : Skip) (k : Combination) (cells : List Combination) (col : ℕ)
    (q : Combination) (b : Bool)
    → col < length cells → get_or cells col [] ≡ q → combination_is_left_out skip q ≡ b
    → combination_cell_count_from_column skip k cells col ≡ cond b 0
    (cond (are_same_combination k q) 1 0) + combination_cell_count_from_column skip k cells (col + 1)
combination_cell_count_from_column-step skip k cells col q b within here left =
    let split : drop col cells ≡ q ∷ drop (col + 1) cells =
    drop_more cells col [] within ∙ ap (λ (x : Combination). x ∷ drop (col + 1) cells) here in
    ap (λ (l : List Combination). cell_count_of_combination k (kept_cells skip l)) split
    ∙ count-both skip k (q ∷ []) (drop (col + 1) cells)
    ∙ ap (λ m. m + combination_cell_count_from_column skip k cells (col + 1)) (count-stretch skip k q 1 b left)

-- the count after the last column is 0
pub combination_cell_count_from_column-end : (skip : Skip) (k : Combination) (cells : List Combination) (col : ℕ)
    → length cells ≤ col
    → combination_cell_count_from_column skip k cells col ≡ 0
combination_cell_count_from_column-end skip k cells col ended =
    ap (λ (l : List Combination). cell_count_of_combination k (kept_cells skip l)) (drop_of_length-le cells ended)

pub length-both : (xs ys : List CellValue) → length ys ≡ length xs → length (combinations_of_two_rows xs ys) ≡ length xs
length-both [] ys e = refl
length-both (x ∷ xs) [] e = absurd (omega (arith, e))
length-both (x ∷ xs) (y ∷ ys) e =
    let rest : length ys ≡ length xs = omega (arith, e) in
    omega (arith, length-both xs ys rest)

pub get-both : (xs ys : List CellValue) (i : ℕ) (d e : CellValue) → i < length xs → length ys ≡ length xs
    → get_or (combinations_of_two_rows xs ys) i [] ≡ get_or xs i d ∷ get_or ys i e ∷ []
get-both [] ys i d e within same = absurd (omega (arith, within))
get-both (x ∷ xs) [] i d e within same = absurd (omega (arith, same))
get-both (x ∷ xs) (y ∷ ys) zero d e within same = refl
get-both (x ∷ xs) (y ∷ ys) (suc i) d e within same =
    let rest : length ys ≡ length xs = omega (arith, same) in
    get-both xs ys i d e (omega (arith, within)) rest

-- the combination of two maps at a column is the pair of their cells
pub pair-at : (xs ys : List CellValue) (i : ℕ) (x y : CellValue) → i < length xs → length ys ≡ length xs
    → x ≡ get_or xs i x → y ≡ get_or ys i y → get_or (combinations_of_two_rows xs ys) i [] ≡ x ∷ y ∷ []
pair-at xs ys i x y within same first second =
    get-both xs ys i x y within same ∙ ap (λ (c : CellValue). c ∷ get_or ys i y ∷ []) (sym first)
    ∙ ap (λ (c : CellValue). x ∷ c ∷ []) (sym second)

-- the combination of one map at a column is its cell
pub alone-at : (xs : List CellValue) (i : ℕ) (x : CellValue) → i < length xs → x ≡ get_or xs i x
    → get_or (map combination_of_one_cell xs) i [] ≡ combination_of_one_cell x
alone-at [] i x within is = absurd (omega (arith, within))
alone-at (y ∷ xs) zero x within is = ap combination_of_one_cell (sym is)
alone-at (y ∷ xs) (suc i) x within is = alone-at xs i x (omega (arith, within)) is

both-get : (xs ys : List CellValue) (a : ℕ) (f : ℕ → Combination) → length ys ≡ length xs
    → ((j : ℕ) → f (a + j) ≡ get_or xs j None ∷ get_or ys j None ∷ [])
    → map f (range_with_len a (length xs)) ≡ combinations_of_two_rows xs ys
both-get [] ys a f e h = refl
both-get (x ∷ xs) [] a f e h = absurd (omega (arith, e))
both-get (x ∷ xs) (y ∷ ys) a f e h =
    let here : f a ≡ x ∷ y ∷ [] = ap f (sym (add-zero a)) ∙ h 0 in
    let behind : (j : ℕ) → f (a + 1 + j) ≡ get_or xs j None ∷ get_or ys j None ∷ [] =
    λ j. ap f (next j) ∙ h (suc j) in
    let rest : length ys ≡ length xs = omega (arith, e) in
    ap (λ (z : Combination). z ∷ map f (range_with_len (a + 1) (length xs))) here
    ∙ ap (λ (t : List Combination). (x ∷ y ∷ []) ∷ t) (both-get xs ys (a + 1) f rest behind)
  where
    next : (j : ℕ) → a + 1 + j ≡ a + suc j
    next j = omega arith

-- the combinations of a row of two maps are the pairs of their cells
pub row-both : (maps : List Grid) (row p q cols : ℕ) → length (row_of_map_at_place maps row p) ≡ cols
    → length (row_of_map_at_place maps row q) ≡ cols
    → row_combinations maps (p ∷ q ∷ []) cols row ≡ combinations_of_two_rows (row_of_map_at_place maps row p)
    (row_of_map_at_place maps row q)
row-both maps row p q cols wide wide_too =
    let at = combination_at_row_and_column maps (p ∷ q ∷ []) row in
    ap (λ n. map at (range_with_len 0 n)) (sym wide)
    ∙ both-get (row_of_map_at_place maps row p) (row_of_map_at_place maps row q) 0 at (wide_too
    ∙ sym wide) (λ j. ap at (zero-add j)
    ∙ ap (λ (c : CellValue). c ∷ cell_of_map_at_place maps row j q ∷ []) (cell-row maps row j p)
    ∙ ap (λ (c : CellValue). get_or (row_of_map_at_place maps row p) j None ∷ c ∷ []) (cell-row maps row j q))

-- a list of two places is its first and its second place
pub twin : (places : List ℕ) (d : ℕ) → length places ≡ 2 → places ≡ get_or places 0 d ∷ get_or places 1 d ∷ []
twin [] d e = absurd (omega (arith, e))
twin (p ∷ []) d e = absurd (omega (arith, e))
twin (p ∷ q ∷ []) d e = refl
twin (p ∷ q ∷ r ∷ places) d e = absurd (omega (arith, e))

cond-le : (b : Bool) → cond b 1 0 ≤ 1
cond-le true = omega arith
cond-le false = omega arith

module _ (skip : Skip) (k : Combination) (cells : List Combination) (col : ℕ) (q : Combination)
    (within : col < length cells)
    (here : get_or cells col [] ≡ q) where
  -- a cell that is left out adds nothing
  pub cell-left : (now all : ℕ) → combination_is_left_out skip q ≡ true
      → now + combination_cell_count_from_column skip k cells col ≡ all
      → now + combination_cell_count_from_column skip k cells (col + 1) ≡ all
  cell-left now all left e = omega (
    arith,
    e,
    combination_cell_count_from_column-step skip k cells col q true within here
        left,
  )

  -- a cell that is kept is counted
  pub cell-more : (now new all : ℕ) → combination_is_left_out skip q ≡ false
      → new ≡ now + cond (are_same_combination k q) 1 0
      → now + combination_cell_count_from_column skip k cells col ≡ all
      → new + combination_cell_count_from_column skip k cells (col + 1) ≡ all
  cell-more now new all kept grown e =
      omega (arith, e, grown, combination_cell_count_from_column-step skip k cells col q false within here kept)

  -- a cell adds at most 1 to each count
  pub cell-few : (now new from old : ℕ) → new ≡ now + cond (are_same_combination k q) 1 0 → now + from ≤ old + col
      → new + from ≤ old + (col + 1)
  cell-few now new from old grown few = omega (arith, few, grown, cond-le (are_same_combination k q))

-- one more row of two maps is counted
pub counted-both : (skip : Skip) (k : Combination) (maps : List Grid) (picks : List ℕ) (row p q cols : ℕ)
    (one other : Grid)
    (old new : ℕ) → picks ≡ p ∷ q ∷ [] → slice_get maps p ≡ Some one → slice_get maps q ≡ Some other
    → length (row_at one row) ≡ cols → length (row_at other row) ≡ cols
    → old ≡ cell_count_of_combination k (kept_cells skip (all_combinations maps picks row cols))
    → new ≡ old + combination_cell_count_from_column skip k (combinations_of_two_rows (row_at one row)
    (row_at other row)) 0
    → new ≡ cell_count_of_combination k (kept_cells skip (all_combinations maps picks (row + 1) cols))
counted-both skip k maps picks row p q cols one other old new twins first second wide wide_too was grown =
    let base = all_combinations maps picks row cols in
    let same : row_of_map_at_place maps row p ≡ row_at one row = row-of maps row p one first in
    let same_too : row_of_map_at_place maps row q ≡ row_at other row = row-of maps row q other second in
    let line : combinations_of_two_rows (row_at one row) (row_at other row) ≡ row_combinations maps picks cols row =
    ap (λ l. combinations_of_two_rows l (row_at other row)) (sym same)
    ∙ ap (combinations_of_two_rows (row_of_map_at_place maps row p)) (sym same_too)
    ∙ sym (row-both maps row p q cols (ap length same ∙ wide) (ap length same_too ∙ wide_too))
    ∙ ap (λ (l : List ℕ). row_combinations maps l cols row) (sym twins) in
    grown ∙ ap (λ n. n + cell_count_of_combination k (kept_cells skip (combinations_of_two_rows (row_at one row)
    (row_at other row)))) was
    ∙ ap (λ (l : List Combination). cell_count_of_combination k (kept_cells skip base) + cell_count_of_combination k
    (kept_cells skip l)) line
    ∙ sym (count-both skip k base (row_combinations maps picks cols row))
    ∙ ap (λ (l : List Combination). cell_count_of_combination k (kept_cells skip l))
    (sym (all_combinations_more maps picks cols row))
    ∙ ap (λ r. cell_count_of_combination k (kept_cells skip (all_combinations maps picks r cols))) (sym (add-one row))

-- ---- the steps from a column to the next

-- what the places held is counted when the cells after it are
pub joined : {now list old was : ℕ} (listed rest left all : ℕ) → now ≡ list → list + left ≡ old + rest → old ≡ was
    → was + listed + rest ≡ all → now + listed + left ≡ all
joined listed rest left all same counts value before = omega arith

pub joined_few : {now list old was : ℕ} (listed col next most : ℕ) → now ≡ list → list + col ≤ old + next → old ≡ was
    → was + listed ≤ most + col → now + listed ≤ most + next
joined_few listed col next most same few value before = omega arith

pub none : (n : ℕ) {m : ℕ} → n ≤ m → n + 0 ≤ m
none n le = omega arith

pub one_more : (n : ℕ) {m : ℕ} → n + 0 ≤ m → n ≤ m
one_more n le = omega arith

pub next_few : {n : ℕ} (most col : ℕ) → n ≤ most + col → n ≤ most + (col + 1)
next_few most col le = omega arith

pub inside : {col wide all : ℕ} → col < wide → all ≡ wide → col < all
inside small same = omega arith

pub before_end : {col wide : ℕ} → col < wide → col + 1 ≤ wide
before_end small = omega arith

pub still_some : {n m : ℕ} → n ≡ m → 0 < m → 0 < n
still_some same some = omega arith

pub past : {all wide col : ℕ} → all ≡ wide → wide ≤ col → all ≤ col
past same ended = omega arith

-- when no cells are left, all are counted
pub at_end : {now left : ℕ} (all : ℕ) → left ≡ 0 → now + left ≡ all → now ≡ all
at_end all none counted = omega arith
