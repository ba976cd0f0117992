-- Sums over the cells of rectangles, and parts that cover each cell once.
use Rattle.std.proofs.Common.{◌≡◌, ℕ, zero, suc, ◌+◌, ◌-◌, ◌<◌, ◌≤◌, List, [], ◌∷◌, map, Bool, true, false, ◌&&◌, cond, leb, ltb, refl, ap, sym, ◌∙◌, arith, zero-add, add-zero}
use Rattle.std.specs.Prelude.{All, sum_by, count_by}
use Rattle.std.specs.List.{range_with_len, flat_map}
use Rattle.std.specs.Ordering.{eq_by_cmp}
use Rattle.std.proofs.lemmas.Bool.{le-leb, leb-true, lt-ltb, le-ltb}
use Rattle.std.proofs.lemmas.List.Sums.{sum_by-append}
use Rattle.std.proofs.lemmas.List.Elements.{All-head, All-tail}
use Rattle.cell_core.specs.Grid.{Grid}
use Rattle.cell_stats_combinations.specs.Combinations.{Combination, combination_cmp, combination_at_row_and_column}
use Rattle.cell_stats_counts.specs.Counts.{cell_count_of_combination}
use Rattle.cell_stats_counts.proofs.CountLemmas.{count-append}
use Rattle.cell_stats.proofs.TableLemmas.{count_cons}
use Rattle.cell_join_numbers.specs.Parts.{Rectangle, cell_is_in_rectangle, MapsAreTileOfFullMaps}
use Rattle.cell_join_numbers.specs.TableParts.{TileOfMaps, combinations_of_tile, TileCountsAddUp}
use Rattle.cell_join_numbers.proofs.BlockLemmas.{block, part-block}

-- ---- sums along a line

-- the sum of n terms from the a-th term on
abbrev pub line : (ℕ → ℕ) → ℕ → ℕ → ℕ
line g a zero = 0
line g a (suc n) = g a + line g (a + 1) n

pub line-same : (g h : ℕ → ℕ) (a n : ℕ) → ((i : ℕ) → a ≤ i → i < a + n → g i ≡ h i) → line g a n ≡ line h a n
line-same g h a zero same = refl
line-same g h a (suc n) same =
    let here : g a ≡ h a = same a (omega arith) (omega arith) in
    omega (arith, here, line-same g h (a + 1) n (λ i le lt. same i (omega arith) (omega arith)))

pub line-none : (g : ℕ → ℕ) (a n : ℕ) → ((i : ℕ) → a ≤ i → i < a + n → g i ≡ 0) → line g a n ≡ 0
line-none g a zero none = refl
line-none g a (suc n) none =
    let here : g a ≡ 0 = none a (omega arith) (omega arith) in
    omega (arith, here, line-none g (a + 1) n (λ i le lt. none i (omega arith) (omega arith)))

pub line-cut : (g : ℕ → ℕ) (a n m : ℕ) → line g a (n + m) ≡ line g a n + line g (a + n) m
line-cut g a zero m = ap (line g a) (zero-add m) ∙ ap (λ b. line g b m) (sym (add-zero a)) ∙ sym (zero-add (line g (a + 0) m))
line-cut g a (suc n) m =
    let more : suc n + m ≡ suc (n + m) = omega arith in
    let on : line g (a + 1 + n) m ≡ line g (a + suc n) m = let e : a + 1 + n ≡ a + suc n = omega arith in ap (λ b. line g b m) e in
    let whole : line g a (suc n + m) ≡ line g a (suc (n + m)) = ap (line g a) more in
    omega (arith, whole, line-cut g (a + 1) n m, on)

line-add : (g h : ℕ → ℕ) (a n : ℕ) → line (λ i. g i + h i) a n ≡ line g a n + line h a n
line-add g h a zero = refl
line-add g h a (suc n) = omega (arith, line-add g h (a + 1) n)

-- whether i is one of the n numbers from a
abbrev pub among : ℕ → ℕ → ℕ → Bool
among a n i = leb a i && ltb i (a + n)

pub among-in : (a n i : ℕ) → a ≤ i → i < a + n → among a n i ≡ true
among-in a n i le lt = ap (λ b. b && ltb i (a + n)) (le-leb a i le) ∙ lt-ltb i (a + n) lt

pub among-past : (a n i : ℕ) → a + n ≤ i → among a n i ≡ false
among-past a n i le =
    let past : a ≤ i = omega (arith, le) in
    ap (λ b. b && ltb i (a + n)) (le-leb a i past) ∙ le-ltb i (a + n) le

pub among-before : (a n i : ℕ) → i < a → among a n i ≡ false
among-before a n i lt = ap (λ b. b && ltb i (a + n)) (not-leb a i lt)
  where
    not-leb : (a i : ℕ) → i < a → leb a i ≡ false
    not-leb a i lt = by (leb a i) refl
      where
        by : (b : Bool) → leb a i ≡ b → b ≡ false
        by true e = absurd (let le = leb-true a i e in omega (arith, le, lt))
        by false e = refl

-- a sum of n terms is the sum of a longer line in which all other terms are 0
line-within : (g : ℕ → ℕ) (a n total : ℕ) → a + n ≤ total → line g a n ≡ line (λ i. cond (among a n i) (g i) 0) 0 total
line-within g a n total fits =
    let h = λ (i : ℕ). cond (among a n i) (g i) 0 in
    let parts : total ≡ a + (n + (total - (a + n))) = omega (arith, fits) in
    let whole : line h 0 total ≡ line h 0 (a + (n + (total - (a + n)))) = ap (line h 0) parts in
    let first : line h 0 a ≡ 0 = line-none h 0 a (λ i le lt. let less : i < a = omega (arith, lt) in ap (λ b. cond b (g i) 0) (among-before a n i less)) in
    let middle : line g a n ≡ line h a n = line-same g h a n (λ i le lt. sym (ap (λ b. cond b (g i) 0) (among-in a n i le lt))) in
    let last : line h (a + n) (total - (a + n)) ≡ 0 = line-none h (a + n) (total - (a + n)) (λ i le lt. ap (λ b. cond b (g i) 0) (among-past a n i le)) in
    let cut_one : line h 0 (a + (n + (total - (a + n)))) ≡ line h 0 a + line h a (n + (total - (a + n))) = line-cut h 0 a (n + (total - (a + n))) ∙ ap (λ b. line h 0 a + line h b (n + (total - (a + n)))) (zero-add a) in
    let cut_two = line-cut h a n (total - (a + n)) in
    omega (arith, whole, first, middle, last, cut_one, cut_two)

-- ---- sums over a rectangle

abbrev total : (ℕ → ℕ → ℕ) → ℕ → ℕ → ℕ → ℕ → ℕ
total f top rows left cols = line (λ row. line (f row) left cols) top rows

total-within : (f : ℕ → ℕ → ℕ) (r : Rectangle) (rows cols : ℕ) → r.top + r.rows ≤ rows → r.left + r.cols ≤ cols → total f r.top r.rows r.left r.cols ≡ total (λ row col. cond (cell_is_in_rectangle r row col) (f row col) 0) 0 rows 0 cols
total-within f r rows cols high wide =
    line-within (λ row. line (f row) r.left r.cols) r.top r.rows rows high
    ∙ line-same (λ row. cond (among r.top r.rows row) (line (f row) r.left r.cols) 0) (λ row. line (λ col. cond (cell_is_in_rectangle r row col) (f row col) 0) 0 cols) 0 rows (λ row le lt. by row (among r.top r.rows row) refl)
  where
    by : (row : ℕ) (b : Bool) → among r.top r.rows row ≡ b → cond b (line (f row) r.left r.cols) 0 ≡ line (λ col. cond (cell_is_in_rectangle r row col) (f row col) 0) 0 cols
    by row true e =
        line-within (f row) r.left r.cols cols wide
        ∙ line-same (λ col. cond (among r.left r.cols col) (f row col) 0) (λ col. cond (cell_is_in_rectangle r row col) (f row col) 0) 0 cols (λ col le lt. ap (λ b. cond (b && among r.left r.cols col) (f row col) 0) (sym e))
    by row false e = sym (line-none (λ col. cond (cell_is_in_rectangle r row col) (f row col) 0) 0 cols (λ col le lt. ap (λ b. cond (b && among r.left r.cols col) (f row col) 0) e))

total-same : (f h : ℕ → ℕ → ℕ) (rows cols : ℕ) → ((row col : ℕ) → row < rows → col < cols → f row col ≡ h row col) → total f 0 rows 0 cols ≡ total h 0 rows 0 cols
total-same f h rows cols same =
    line-same (λ row. line (f row) 0 cols) (λ row. line (h row) 0 cols) 0 rows (λ row le lt.
    line-same (f row) (h row) 0 cols (λ col le_too lt_too. same row col (omega (arith, lt)) (omega (arith, lt_too))))

total-none : (rows cols : ℕ) → total (λ row col. 0) 0 rows 0 cols ≡ 0
total-none rows cols = line-none (λ row. line (λ col. 0) 0 cols) 0 rows (λ row le lt. line-none (λ col. 0) 0 cols (λ col le_too lt_too. refl))

total-add : (f h : ℕ → ℕ → ℕ) (rows cols : ℕ) → total (λ row col. f row col + h row col) 0 rows 0 cols ≡ total f 0 rows 0 cols + total h 0 rows 0 cols
total-add f h rows cols =
    line-same (λ row. line (λ col. f row col + h row col) 0 cols) (λ row. line (f row) 0 cols + line (h row) 0 cols) 0 rows (λ row le lt. line-add (f row) (h row) 0 cols)
    ∙ line-add (λ row. line (f row) 0 cols) (λ row. line (h row) 0 cols) 0 rows

-- ---- counts as sums

abbrev one-at : (whole : List Grid) (picks : List ℕ) (k : Combination) → ℕ → ℕ → ℕ
one-at whole picks k row col = cond (eq_by_cmp combination_cmp k
    (combination_at_row_and_column whole picks row col)) 1 0

pub count-line : (f : ℕ → Combination) (k : Combination) (a n : ℕ) → cell_count_of_combination k (map f (range_with_len a n)) ≡ line (λ i. cond (eq_by_cmp combination_cmp k (f i)) 1 0) a n
count-line f k a zero = refl
count-line f k a (suc n) = count_cons k (f a) (map f (range_with_len (a + 1) n)) ∙ ap (λ m. cond (eq_by_cmp combination_cmp k (f a)) 1 0 + m) (count-line f k (a + 1) n)

pub count-lines : (f : ℕ → List Combination) (k : Combination) (a n : ℕ) → cell_count_of_combination k (flat_map f (range_with_len a n)) ≡ line (λ i. cell_count_of_combination k (f i)) a n
count-lines f k a zero = refl
count-lines f k a (suc n) = count-append k (f a) (flat_map f (range_with_len (a + 1) n)) ∙ ap (λ m. cell_count_of_combination k (f a) + m) (count-lines f k (a + 1) n)

count-block : (whole : List Grid) (picks : List ℕ) (k : Combination) (top rows left cols : ℕ) → cell_count_of_combination k (block whole picks top rows left cols) ≡ total (one-at whole picks k) top rows left cols
count-block whole picks k top rows left cols =
    count-lines (λ row. map (combination_at_row_and_column whole picks row) (range_with_len left cols)) k top rows
    ∙ line-same (λ row. cell_count_of_combination k (map (combination_at_row_and_column whole picks row) (range_with_len left cols))) (λ row. line (one-at whole picks k row) left cols) top rows (λ row le lt. count-line (combination_at_row_and_column whole picks row) k left cols)

-- ---- parts

pub sum-cons : {X : Type 0} (f : X → ℕ) (x : X) (xs : List X) → sum_by f (x ∷ xs) ≡ f x + sum_by f xs
sum-cons f x xs = sum_by-append f (x ∷ []) xs ∙ ap (λ n. n + sum_by f xs) (zero-add (f x))

module _ (rows cols : ℕ) (whole : List Grid) (picks : List ℕ) (k : Combination) where
  -- the value that a part adds at a cell
  abbrev adds : ℕ → ℕ → TileOfMaps → ℕ
  adds row col part = cond (cell_is_in_rectangle part.place row col) (one-at whole picks k row col) 0

  part-total : (part : TileOfMaps) → (part.place.top + part.place.rows ≤ rows) × (part.place.left + part.place.cols ≤ cols) → MapsAreTileOfFullMaps part.place whole part.maps → cell_count_of_combination k (combinations_of_tile picks part) ≡ total (λ row col. adds row col part) 0 rows 0 cols
  part-total part fits is =
      ap (cell_count_of_combination k) (part-block part.place.top part.place.left part.place.rows part.place.cols whole part.maps is picks)
      ∙ count-block whole picks k part.place.top part.place.rows part.place.left part.place.cols
      ∙ total-within (one-at whole picks k) part.place rows cols fits.0 fits.1

  parts-total : (parts : List TileOfMaps) → All (λ r. (r.top + r.rows ≤ rows) × (r.left + r.cols ≤ cols)) (map (λ part. part.place) parts) → All (λ part. MapsAreTileOfFullMaps part.place whole part.maps) parts → sum_by (λ part. cell_count_of_combination k (combinations_of_tile picks part)) parts ≡ total (λ row col. sum_by (adds row col) parts) 0 rows 0 cols
  parts-total [] fits are = sym (total-none rows cols)
  parts-total (part ∷ parts) fits are =
      let here = part-total part (All-head (λ r. (r.top + r.rows ≤ rows) × (r.left + r.cols ≤ cols)) part.place (map (λ part. part.place) parts) fits) (All-head (λ part. MapsAreTileOfFullMaps part.place whole part.maps) part parts are) in
      let rest = parts-total parts (All-tail (λ r. (r.top + r.rows ≤ rows) × (r.left + r.cols ≤ cols)) part.place (map (λ part. part.place) parts) fits) (All-tail (λ part. MapsAreTileOfFullMaps part.place whole part.maps) part parts are) in
      sum-cons (λ part. cell_count_of_combination k (combinations_of_tile picks part)) part parts
      ∙ ap (λ n. n + sum_by (λ part. cell_count_of_combination k (combinations_of_tile picks part)) parts) here
      ∙ ap (λ n. total (λ row col. adds row col part) 0 rows 0 cols + n) rest
      ∙ sym (total-add (λ row col. adds row col part) (λ row col. sum_by (adds row col) parts) rows cols)
      ∙ total-same (λ row col. adds row col part + sum_by (adds row col) parts) (λ row col. sum_by (adds row col) (part ∷ parts)) rows cols (λ row col h w. sym (sum-cons (adds row col) part parts))

  -- at a cell, all parts together add the value of the part that contains the cell
  adds-all : (row col : ℕ) (b : Bool) (parts : List TileOfMaps) → sum_by (λ part. cond (cell_is_in_rectangle part.place row col) (cond b 1 0) 0) parts ≡ cond b (count_by (λ r. cell_is_in_rectangle r row col) (map (λ part. part.place) parts)) 0
  adds-all row col true [] = refl
  adds-all row col false [] = refl
  adds-all row col true (part ∷ parts) =
      sum-cons (λ part. cond (cell_is_in_rectangle part.place row col) 1 0) part parts
      ∙ ap (λ n. cond (cell_is_in_rectangle part.place row col) 1 0 + n) (adds-all row col true parts)
      ∙ sym (sum-cons (λ r. cond (cell_is_in_rectangle r row col) 1 0) part.place (map (λ part. part.place) parts))
  adds-all row col false (part ∷ parts) =
      sum-cons (λ part. cond (cell_is_in_rectangle part.place row col) 0 0) part parts
      ∙ ap (λ n. n + sum_by (λ part. cond (cell_is_in_rectangle part.place row col) 0 0) parts)
      (none (cell_is_in_rectangle part.place row col))
      ∙ zero-add (sum_by (λ part. cond (cell_is_in_rectangle part.place row col) 0 0) parts)
      ∙ adds-all row col false parts
    where
      none : (b : Bool) → ◌≡◌ {A = ℕ} (cond b 0 0) 0
      none true = refl
      none false = refl

pub parts-add-up : TileCountsAddUp
parts-add-up rows cols whole parts are picks k =
    count-block whole picks k 0 rows 0 cols
    ∙ total-same (one-at whole picks k) (λ row col. sum_by (adds rows cols whole picks k row col) parts) rows cols (λ row col h w. sym (once row col h w))
    ∙ sym (parts-total rows cols whole picks k parts are.tiling.within are.cells)
  where
    once : (row col : ℕ) → row < rows → col < cols → sum_by (adds rows cols whole picks k row col) parts ≡ one-at whole picks k row col
    once row col h w =
        let b = eq_by_cmp combination_cmp k (combination_at_row_and_column whole picks row col) in
        adds-all rows cols whole picks k row col b parts ∙ ap (λ n. cond b n 0) (are.tiling.once row col h w)
