-- Numbers of labels, listed tile by tile.
use Rattle.std.proofs.Common.{◌≡◌, ℕ, zero, suc, ◌+◌, ◌-◌, ◌<◌, ◌≤◌, [], ◌++◌, List, take, length, get_or, ap, sym, ◌∙◌, arith, subst, ⊎_elim}
use Rattle.std.specs.Prelude.{flat_map, sum_by}
use Rattle.std.specs.List.{range_with_len}
use Rattle.std.proofs.lemmas.Bool.{cases_eq}
use Rattle.std.proofs.lemmas.List.{get_or_append_left, get_or-append-add, length-append}
use Rattle.std.proofs.lemmas.List.Concat.{flat_map-cons}
use Rattle.std.proofs.lemmas.List.FromFn.{length-map-range_with_len, get_or-map-range_with_len}
use Rattle.cell_join_tiles.specs.Beginnings.{BegunClumpCountsByRow, clump_count_of_tile, clump_count_of_tile_row}
use Rattle.cell_join_tiles.specs.Beginnings.{label_of_clump_in_tile_grid}
use Rattle.cell_join_tiles.specs.TileNumbers.{clump_numbers_of_tile, clump_numbers_of_tile_row, clump_numbers_of_all_tiles, clump_count_before_tile, ClumpNumbersAreListedByTile}
use Rattle.cell_join_tiles.proofs.LabelSums.{more-le, next-one, all-of}

-- lists laid one after another, and the place at which each begins
pub record AreLaid (f : ℕ → List ℕ) (before : ℕ → ℕ) (n : ℕ) : Type 0 where
  pub next : (i : ℕ) → i < n → before (suc i) ≡ before i + length (f i)
  pub rising : (i k : ℕ) → i ≤ k → before i ≤ before k

laid-at : (f : ℕ → List ℕ) (before : ℕ → ℕ) (all : ℕ) → AreLaid f before all → (a n : ℕ) → a + n ≡ all → (i k d : ℕ) → a ≤ i → i < all → k < length (f i) → get_or (flat_map f (range_with_len a n)) ((before i - before a) + k) d ≡ get_or (f i) k d
laid-at f before all laid a zero e i k d low lt k_lt = absurd (omega (arith, e, low, lt))
laid-at f before all laid a (suc n) e i k d low lt k_lt =
    let own : List ℕ = f a in
    let rest : List ℕ = flat_map f (range_with_len (a + 1) n) in
    ap (λ (xs : List ℕ). get_or xs ((before i - before a) + k) d) (flat_map-cons f a (range_with_len (a + 1) n))
    ∙ ⊎_elim
    (λ same.
    let at : (before i - before a) + k ≡ k = (let b : before a ≡ before i = ap before same in omega (arith, b)) in
    let k_in : k < length own = subst (λ (m : ℕ). k < length (f m)) (sym same) k_lt in
    ap (λ (m : ℕ). get_or (own ++ rest) m d) at ∙ get_or_append_left own rest d k k_in ∙ ap (λ (m : ℕ). get_or (f m) k d) same)
    (λ apart.
    let above : a + 1 ≤ i = past a i low apart in
    let one : suc a ≡ a + 1 = omega arith in
    let step : before (a + 1) ≡ before a + length own = sym (ap before one) ∙ laid.next a (omega (arith, e)) in
    let rise = laid.rising (a + 1) i above in
    let at : (before i - before a) + k ≡ length own + ((before i - before (a + 1)) + k) = omega (arith, step, rise) in
    ap (λ (m : ℕ). get_or (own ++ rest) m d) at
    ∙ get_or-append-add own rest ((before i - before (a + 1)) + k) d
    ∙ laid-at f before all laid (a + 1) n (omega (arith, e)) i k d above lt k_lt)
    (cases_eq a i)
  where
    past : (a i : ℕ) → a ≤ i → (a ≡ i → ⊥) → a + 1 ≤ i
    past a i le ne = omega (arith, le, ne)

laid-long : (f : ℕ → List ℕ) (before : ℕ → ℕ) (all : ℕ) → AreLaid f before all → (a n : ℕ) → a + n ≡ all → length (flat_map f (range_with_len a n)) + before a ≡ before all
laid-long f before all laid a zero e = let same : a ≡ all = omega (arith, e) in let b : before a ≡ before all = ap before same in omega (arith, b)
laid-long f before all laid a (suc n) e =
    let own : List ℕ = f a in
    let rest : List ℕ = flat_map f (range_with_len (a + 1) n) in
    let one : suc a ≡ a + 1 = omega arith in
    let step : before (a + 1) ≡ before a + length own = sym (ap before one) ∙ laid.next a (omega (arith, e)) in
    let cons : length (flat_map f (range_with_len a (suc n))) ≡ length (own ++ rest) = ap (λ (xs : List ℕ). length xs) (flat_map-cons f a (range_with_len (a + 1) n)) in
    omega (arith, cons, length-append own rest, step, laid-long f before all laid (a + 1) n (omega (arith, e)))

module _ (number : ℕ → ℕ) (grid : List (List BegunClumpCountsByRow)) where
  abbrev row_at : ℕ → List BegunClumpCountsByRow
  row_at r = get_or grid r []

  tile-long : (r c : ℕ) → length (clump_numbers_of_tile number grid r c) ≡ clump_count_of_tile (get_or (row_at r) c [])
  tile-long r c = length-map-range_with_len (λ (k : ℕ). number (label_of_clump_in_tile_grid grid r c k)) 0 (clump_count_of_tile (get_or (row_at r) c []))

  tiles : (r : ℕ) → AreLaid (clump_numbers_of_tile number grid r) (λ c. sum_by clump_count_of_tile (take c (row_at r))) (length (row_at r))
  tiles r = record {
    next = λ c lt. omega (arith, next-one clump_count_of_tile (row_at r) c [] lt, tile-long r c);
    rising = λ c d le. more-le clump_count_of_tile (row_at r) c d le;
  }

  row-long : (r : ℕ) → length (clump_numbers_of_tile_row number grid r) ≡ clump_count_of_tile_row (row_at r)
  row-long r =
      omega (
        arith,
        laid-long (clump_numbers_of_tile number grid r) (λ c. sum_by clump_count_of_tile (take c (row_at r))) (length (row_at r)) (tiles r) 0 (length (row_at r)) (omega arith),
        all-of clump_count_of_tile (row_at r) (length (row_at r)) (omega arith),
      )

  rows : AreLaid (clump_numbers_of_tile_row number grid) (λ r. sum_by clump_count_of_tile_row (take r grid))
      (length grid)
  rows = record {
    next = λ r lt. omega (arith, next-one clump_count_of_tile_row grid r [] lt, row-long r);
    rising = λ r s le. more-le clump_count_of_tile_row grid r s le;
  }

pub tile-numbers-are-listed : ClumpNumbersAreListedByTile
tile-numbers-are-listed number grid r c k r_lt c_lt k_lt =
    let row : List BegunClumpCountsByRow = get_or grid r [] in
    let in_row = sum_by clump_count_of_tile (take c row) in
    let inner : get_or (clump_numbers_of_tile_row number grid r) ((in_row - 0) + k) 0 ≡ get_or (clump_numbers_of_tile number grid r c) k 0 =
    laid-at (clump_numbers_of_tile number grid r) (λ d. sum_by clump_count_of_tile (take d row)) (length row) (tiles number grid r) 0 (length row) (omega arith) c k 0 (omega arith) c_lt (omega (arith, k_lt, tile-long number grid r c)) in
    let low : in_row + k < length (clump_numbers_of_tile_row number grid r) = omega (arith, k_lt, row-long number grid r, next-one clump_count_of_tile row c [] c_lt, more-le clump_count_of_tile row (suc c) (length row) (omega (arith, c_lt)), all-of clump_count_of_tile row (length row) (omega arith)) in
    let outer = laid-at (clump_numbers_of_tile_row number grid) (λ s. sum_by clump_count_of_tile_row (take s grid)) (length grid) (rows number grid) 0 (length grid) (omega arith) r (in_row + k) 0 (omega arith) r_lt low in
    let at : clump_count_before_tile grid r c + k ≡ (sum_by clump_count_of_tile_row (take r grid) - 0) +
    (in_row + k) = omega arith in
    let at_row : in_row + k ≡ (in_row - 0) + k = omega arith in
    ap (λ (n : ℕ). get_or (clump_numbers_of_all_tiles number grid) n 0) at
    ∙ outer
    ∙ ap (λ (n : ℕ). get_or (clump_numbers_of_tile_row number grid r) n 0) at_row
    ∙ inner
    ∙ get_or-map-range_with_len (λ (i : ℕ). number (label_of_clump_in_tile_grid grid r c i)) 0 (clump_count_of_tile (get_or row c [])) k k 0 k_lt (omega arith)
