-- Counts of the cells of maps, and sums over the entries of their tables.
use Rattle.std.proofs.lemmas.Bool.{cases_order}
use Rattle.std.proofs.Common.{◌≡◌, ℕ, zero, suc, ◌+◌, ◌<◌, ◌≤◌, map, [], ◌∷◌, ◌++◌, List, length, get_or, Some, Bool}
use Rattle.std.proofs.Common.{true, false, ◌&&◌, not, cond, refl, ap, sym, ◌∙◌, arith, IsTrue, ⊎_elim}
use Rattle.std.specs.Prelude.{count_by, sum_by, filter, All, Contains}
use Rattle.std.specs.List.{flat_map, range_with_len}
use Rattle.std.specs.Ordering.{eq_by_cmp, is_eq}
use Rattle.std.specs.Cmp.{tied_itself}
use Rattle.std.specs.FinMap.Entries.{find, is_sorted, below_all}
use Rattle.std.proofs.lemmas.List.Sums.{sum_by-cons, sum_by-append}
use Rattle.cell_core.specs.Grid.{Grid}
use Rattle.cell_stats_combinations.specs.declared.skip.Skip.{Skip}
use Rattle.cell_stats_combinations.specs.declared.skip.Skip.TheVariants.{Nothing}
use Rattle.cell_stats_combinations.specs.Combinations.{Combination, combination_cmp, combination_cmp_total}
use Rattle.cell_stats_combinations.specs.Combinations.{combination_at_row_and_column, all_combinations}
use Rattle.cell_stats_combinations.specs.LeftOut.{kept_cells, combination_is_left_out}
use Rattle.cell_stats_combinations.proofs.OrderLemmas.{combination_cmp-exact, is_equal}
use Rattle.cell_stats_counts.specs.Counts.{cell_count_of_combination}
use Rattle.cell_stats.specs.CategoryTables.{CombinationsWithCounts, IsTable}
use Rattle.cell_stats.proofs.SortedLemmas.{both_true, is_less}
use Rattle.cell_stats.proofs.TableLemmas.{IsTally, IsFound-from, found, count_cons, kept-IsTable}

-- 1 if the test passes, otherwise 0
abbrev pub one-if : Bool → ℕ
one-if b = cond b 1 0

pub count_by-cons : {X : Type 0} (t : X → Bool) (x : X) (xs : List X) →
    count_by t (x ∷ xs) ≡ one-if (t x) + count_by t xs
count_by-cons t x xs = sum_by-cons (λ y. one-if (t y)) x xs

count_by-append : {X : Type 0} (t : X → Bool) (xs ys : List X) → count_by t (xs ++ ys) ≡ count_by t xs + count_by t ys
count_by-append t xs ys = sum_by-append (λ y. one-if (t y)) xs ys

-- ---- tests on the cells of two lists of maps

module _ (f g : ℕ → ℕ → Combination) (t u : Combination → Bool)
    (same : (row col : ℕ) → t (f row col) ≡ u (g row col)) where
  row-counts : (row : ℕ) (cols : List ℕ) → count_by t (map (f row) cols) ≡ count_by u (map (g row) cols)
  row-counts row [] = refl
  row-counts row (col ∷ cols) =
      count_by-cons t (f row col) (map (f row) cols)
      ∙ ap (λ b. one-if b + count_by t (map (f row) cols)) (same row col)
      ∙ ap (λ n. one-if (u (g row col)) + n) (row-counts row cols)
      ∙ sym (count_by-cons u (g row col) (map (g row) cols))

  all-counts : (rows cols : List ℕ) →
      count_by t (flat_map (λ row. map (f row) cols) rows) ≡ count_by u (flat_map (λ row. map (g row) cols) rows)
  all-counts [] cols = refl
  all-counts (row ∷ rows) cols =
      count_by-append t (map (f row) cols) (flat_map (λ r. map (f r) cols) rows)
      ∙ ap (λ n. n + count_by t (flat_map (λ r. map (f r) cols) rows)) (row-counts row cols)
      ∙ ap (λ n. count_by u (map (g row) cols) + n) (all-counts rows cols)
      ∙ sym (count_by-append u (map (g row) cols) (flat_map (λ r. map (g r) cols) rows))

-- two tests that agree at each cell count the same number of cells
pub counts-same : (maps others : List Grid) (picks places : List ℕ) (t u : Combination → Bool) →
    ((row col : ℕ) → t (combination_at_row_and_column maps picks row col)
    ≡ u (combination_at_row_and_column others places row col)) →
    (rows cols : ℕ) →
    count_by t (all_combinations maps picks rows cols) ≡ count_by u (all_combinations others places rows cols)
counts-same maps others picks places t u same rows cols = all-counts (combination_at_row_and_column maps picks)
    (combination_at_row_and_column others places) t u same (range_with_len 0 rows) (range_with_len 0 cols)

-- ---- each counted combination occurs at a cell

pub record At (f : ℕ → ℕ → Combination) (t : Combination → Bool) : Type 0 where
  pub row : ℕ
  pub col : ℕ
  pub passes : t (f row col) ≡ true

module _ (f : ℕ → ℕ → Combination) (t : Combination → Bool) where
  row-more : (row col : ℕ) (cols : List ℕ) → (0 < count_by t (map (f row) cols) → At f t) → (b : Bool) →
      t (f row col) ≡ b → 0 < count_by t (map (f row) (col ∷ cols)) → At f t
  row-more row col cols rest true is some = record { row = row; col = col; passes = is }
  row-more row col cols rest false is some =
      let here : one-if (t (f row col)) ≡ 0 = ap one-if is in
      rest (omega (arith, some, count_by-cons t (f row col) (map (f row) cols), here))

  row-at : (row : ℕ) (cols : List ℕ) → 0 < count_by t (map (f row) cols) → At f t
  row-at row [] some = absurd (omega (arith, some))
  row-at row (col ∷ cols) some = row-more row col cols (row-at row cols) (t (f row col)) refl some

  rows-more : (n m : ℕ) → (0 < n → At f t) → (0 < m → At f t) → 0 < n + m → At f t
  rows-more zero m one other some = other (omega (arith, some))
  rows-more (suc n) m one other some = one (omega arith)

  rows-at : (rows cols : List ℕ) → 0 < count_by t (flat_map (λ row. map (f row) cols) rows) → At f t
  rows-at [] cols some = absurd (omega (arith, some))
  rows-at (row ∷ rows) cols some =
      let both = count_by-append t (map (f row) cols) (flat_map (λ r. map (f r) cols) rows) in
      rows-more (count_by t (map (f row) cols)) (count_by t (flat_map (λ r. map (f r) cols) rows)) (row-at row cols)
      (rows-at rows cols) (omega (arith, some, both))

-- if the count is above 0, some cell passes the test
pub counted-at : (maps : List Grid) (picks : List ℕ) (t : Combination → Bool) (rows cols : ℕ) →
    0 < count_by t (all_combinations maps picks rows cols) → At (combination_at_row_and_column maps picks) t
counted-at maps picks t rows cols some = rows-at (combination_at_row_and_column maps picks) t (range_with_len 0 rows)
    (range_with_len 0 cols) some

-- ---- a cell that passes is counted

module _ (f : ℕ → ℕ → Combination) (t : Combination → Bool) where
  row-counted : (row a n col : ℕ) → a ≤ col → col < a + n → t (f row col) ≡ true →
      0 < count_by t (map (f row) (range_with_len a n))
  row-counted row a zero col least most is = absurd (omega (arith, least, most))
  row-counted row a (suc n) col least most is =
      let sum = count_by-cons t (f row a) (map (f row) (range_with_len (a + 1) n)) in
      ⊎_elim
      (λ same.
      let one : one-if (t (f row a)) ≡ 1 = ap (λ c. one-if (t (f row c))) same ∙ ap one-if is in
      omega (arith, sum, one))
      (λ apart. ⊎_elim
      (λ lt. let rest = row-counted row (a + 1) n col (omega (arith, lt))
      (omega (arith, most)) is in omega (arith, sum, rest))
      (λ gt. absurd (omega (arith, gt, least)))
      apart)
      (cases_order a col)

  rows-counted : (a n row : ℕ) (cols : List ℕ) → a ≤ row → row < a + n → 0 < count_by t (map (f row) cols) →
      0 < count_by t (flat_map (λ r. map (f r) cols) (range_with_len a n))
  rows-counted a zero row cols least most some = absurd (omega (arith, least, most))
  rows-counted a (suc n) row cols least most some =
      let rest = flat_map (λ r. map (f r) cols) (range_with_len (a + 1) n) in
      let sum = count_by-append t (map (f a) cols) rest in
      ⊎_elim
      (λ same.
      let here : count_by t (map (f a) cols) ≡ count_by t (map (f row) cols) =
      ap (λ r. count_by t (map (f r) cols)) same in
      omega (arith, sum, here, some))
      (λ apart. ⊎_elim
      (λ lt. let more = rows-counted (a + 1) n row cols (omega (arith, lt))
      (omega (arith, most)) some in omega (arith, sum, more))
      (λ gt. absurd (omega (arith, gt, least)))
      apart)
      (cases_order a row)

-- if a cell within the rows and columns passes the test, the count is above 0
pub counted-cell : (maps : List Grid) (picks : List ℕ) (t : Combination → Bool) (rows cols row col : ℕ) → row < rows →
    col < cols → t (combination_at_row_and_column maps picks row col) ≡ true
    → 0 < count_by t (all_combinations maps picks rows cols)
counted-cell maps picks t rows cols row col low wide is =
    let f = combination_at_row_and_column maps picks in
    let line = row-counted f t row 0 cols col (omega arith) (omega (arith, wide)) is in
    rows-counted f t 0 rows row (range_with_len 0 cols) (omega arith) (omega (arith, low)) line

-- each entry of a table occurs at a cell
pub entry-at : (skip : Skip) (maps : List Grid) (picks : List ℕ) (rows cols : ℕ) (table : CombinationsWithCounts) →
    IsTable skip (all_combinations maps picks rows cols) table → (k : Combination) (n : ℕ) → Contains table (k, n) →
    (row : ℕ) × (col : ℕ) × (combination_at_row_and_column maps picks row col ≡ k)
entry-at skip maps picks rows cols table is k n stands =
    let counted = (is.counted k n).0 stands in
    let at = counted-at maps picks (eq_by_cmp combination_cmp k) rows cols (omega (arith, counted.1.0, counted.1.1)) in (
      at.row,
      at.col,
      sym (combination_cmp-exact k (combination_at_row_and_column maps picks at.row at.col)
          (is_equal _ at.passes)),
    )

-- ---- tests on the elements of a list

pub count-alike : (t u : Combination → Bool) (xs : List Combination) → All (λ x. t x ≡ u x) xs →
    count_by t xs ≡ count_by u xs
count-alike t u [] same = refl
count-alike t u (x ∷ xs) same =
    let here : one-if (t x) ≡ one-if (u x) = ap one-if (same 0 x (omega arith)) in
    omega (
      arith,
      count_by-cons t x xs,
      count_by-cons u x xs,
      here,
      count-alike t u xs (λ i d within. same (suc i) d (omega (arith, within))),
    )

pub count-filter : (t p : Combination → Bool) (xs : List Combination) →
    count_by t (filter p xs) ≡ count_by (λ x. p x && t x) xs
count-filter t p [] = refl
count-filter t p (x ∷ xs) = by (p x) refl (count-filter t p xs)
  where
    by : (b : Bool) → p x ≡ b → count_by t (filter p xs) ≡ count_by (λ y. p y && t y) xs →
        count_by t (filter p (x ∷ xs)) ≡ count_by (λ y. p y && t y) (x ∷ xs)
    by true is on =
        let kept_too : filter p (x ∷ xs) ≡ x ∷ filter p xs = ap (λ b. cond b (x ∷ filter p xs) (filter p xs)) is in
        let here : one-if (p x && t x) ≡ one-if (t x) = ap (λ b. one-if (b && t x)) is in
        ap (count_by t) kept_too
        ∙ omega (arith, count_by-cons t x (filter p xs), count_by-cons (λ y. p y && t y) x xs, here, on)
    by false is on =
        let left : filter p (x ∷ xs) ≡ filter p xs = ap (λ b. cond b (x ∷ filter p xs) (filter p xs)) is in
        let here : one-if (p x && t x) ≡ 0 = ap (λ b. one-if (b && t x)) is in
        ap (count_by t) left ∙ omega (arith, count_by-cons (λ y. p y && t y) x xs, here, on)

-- ---- sums over a table

-- 1 if the entry has the combination
abbrev mark : Combination → Combination × ℕ → ℕ
mark k e = one-if (eq_by_cmp combination_cmp e.0 k)

turned-equal : (a b : Combination) → eq_by_cmp combination_cmp a b ≡ true → eq_by_cmp combination_cmp b a ≡ true
turned-equal a b is =
    let same : a ≡ b = combination_cmp-exact a b (is_equal _ is) in
    ap (eq_by_cmp combination_cmp b) same ∙ ap is_eq (tied_itself combination_cmp_total b)

turned-apart : (a b : Combination) → eq_by_cmp combination_cmp a b ≡ false → eq_by_cmp combination_cmp b a ≡ false
turned-apart a b is = by (eq_by_cmp combination_cmp b a) refl
  where
    by : (t : Bool) → eq_by_cmp combination_cmp b a ≡ t → t ≡ false
    by true e = let too = turned-equal b a e in cc
    by false e = refl

-- a combination smaller than all others has no entry
mark-none : (k : Combination) (es : CombinationsWithCounts) → IsTrue (below_all combination_cmp k es)
    → sum_by (mark k) es ≡ 0
mark-none k [] b = refl
mark-none k (e ∷ es) b =
    let both = both_true _ _ b in
    let here : mark k e ≡ 0 = ap one-if (turned-apart k e.0 (ap is_eq (is_less _ both.0))) in
    omega (arith, sum_by-cons (mark k) e es, here, mark-none k es both.1)

-- a combination that is found has exactly one entry
mark-more : (k : Combination) (e : Combination × ℕ) (es : CombinationsWithCounts) (n : ℕ) →
    IsTrue (is_sorted combination_cmp (e ∷ es)) → (find combination_cmp k es ≡ Some n → sum_by (mark k) es ≡ 1) →
    find combination_cmp k (e ∷ es) ≡ Some n → sum_by (mark k) (e ∷ es) ≡ 1
mark-more k e es n s rest finds = by (eq_by_cmp combination_cmp k e.0) refl
  where
    by : (t : Bool) → eq_by_cmp combination_cmp k e.0 ≡ t → sum_by (mark k) (e ∷ es) ≡ 1
    by true t =
        let same : k ≡ e.0 = combination_cmp-exact k e.0 (is_equal _ t) in
        let here : mark k e ≡ 1 = ap one-if (turned-equal k e.0 t) in
        let above : IsTrue (below_all combination_cmp k es) = ap (λ x. below_all combination_cmp x es) same
        ∙ (both_true _ _ s).0 in
        omega (arith, sum_by-cons (mark k) e es, here, mark-none k es above)
    by false t =
        let here : mark k e ≡ 0 = ap one-if (turned-apart k e.0 t) in
        let behind : find combination_cmp k es ≡ Some n =
        sym (ap (λ b. cond b (Some e.1) (find combination_cmp k es)) t) ∙ finds in
        omega (arith, sum_by-cons (mark k) e es, here, rest behind)

mark-one : (k : Combination) (es : CombinationsWithCounts) (n : ℕ) → IsTrue (is_sorted combination_cmp es) →
    find combination_cmp k es ≡ Some n → sum_by (mark k) es ≡ 1
mark-one k [] n s finds = cc
mark-one k (e ∷ es) n s finds = mark-more k e es n s (mark-one k es n (both_true _ _ s).1) finds

-- the count of each listed combination is above 0
counts-self : (cells : List Combination) (i : ℕ) (d : Combination) → i < length cells →
    0 < cell_count_of_combination (get_or cells i d) cells
counts-self [] i d within = absurd (omega (arith, within))
counts-self (k ∷ cells) zero d within =
    let one : one-if (eq_by_cmp combination_cmp k k) ≡ 1 = ap one-if (ap is_eq (tied_itself combination_cmp_total k)) in
    omega (arith, count_cons k k cells, one)
counts-self (k ∷ cells) (suc i) d within =
    omega (arith, count_cons (get_or cells i d) k cells, counts-self cells i d (omega (arith, within)))

either-zero : (b : Bool) → ◌≡◌ {A = ℕ} (cond b 0 0) 0
either-zero true = refl
either-zero false = refl

either-sum : (b : Bool) (n m : ℕ) → cond b (n + m) 0 ≡ cond b n 0 + cond b m 0
either-sum true n m = refl
either-sum false n m = refl

either-more : (b c d : Bool) (n m : ℕ) → n ≡ one-if b + m → (b ≡ true → c ≡ d) →
    cond c n 0 ≡ cond d (one-if b) 0 + cond c m 0
either-more true true true n m e same = e
either-more true true false n m e same = let no = same refl in cc
either-more true false true n m e same = let no = same refl in cc
either-more true false false n m e same = refl
either-more false true true n m e same = e
either-more false true false n m e same = e
either-more false false true n m e same = refl
either-more false false false n m e same = refl

module _ (t : Combination → Bool) where
  -- the number of an entry's cells, if the entry passes
  abbrev passing : List Combination → Combination × ℕ → ℕ
  passing cells e = cond (t e.0) (cell_count_of_combination e.0 cells) 0

  passing-none : (es : CombinationsWithCounts) → sum_by (passing []) es ≡ 0
  passing-none [] = refl
  passing-none (e ∷ es) = omega (arith, sum_by-cons (passing []) e es, either-zero (t e.0), passing-none es)

  passing-cons : (k : Combination) (cells : List Combination) (es : CombinationsWithCounts) →
      sum_by (passing (k ∷ cells)) es ≡ cond (t k) (sum_by (mark k) es) 0 + sum_by (passing cells) es
  passing-cons k cells [] = omega (arith, either-zero (t k))
  passing-cons k cells (e ∷ es) =
      let here : passing (k ∷ cells) e ≡ cond (t k) (mark k e) 0 + passing cells e =
      either-more (eq_by_cmp combination_cmp e.0 k) (t e.0) (t k) (cell_count_of_combination e.0 (k ∷ cells))
      (cell_count_of_combination e.0 cells)
      (count_cons e.0 k cells) (λ same. ap t (combination_cmp-exact e.0 k (is_equal _ same))) in
      let marks : cond (t k) (sum_by (mark k) (e ∷ es)) 0 ≡ cond (t k) (mark k e) 0 + cond (t k)
      (sum_by (mark k) es) 0 =
      ap (λ n. cond (t k) n 0) (sum_by-cons (mark k) e es) ∙ either-sum (t k) (mark k e) (sum_by (mark k) es) in
      omega (
        arith,
        sum_by-cons (passing (k ∷ cells)) e es,
        sum_by-cons (passing cells) e es,
        here,
        marks,
        passing-cons k cells es,
      )

  -- if each cell belongs to exactly one entry, the entries that pass count all cells that pass
  passing-all : (es : CombinationsWithCounts) (cells : List Combination) → All (λ k. sum_by (mark k) es ≡ 1) cells →
      sum_by (passing cells) es ≡ count_by t cells
  passing-all es [] all = passing-none es
  passing-all es (k ∷ cells) all =
      let here : cond (t k) (sum_by (mark k) es) 0 ≡ cond (t k) 1 0 = ap (λ n. cond (t k) n 0)
      (all 0 k (omega arith)) in
      omega (
        arith,
        passing-cons k cells es,
        here,
        count_by-cons t k cells,
        passing-all es cells (λ i d within. all (suc i) d (omega (arith, within))),
      )

  sum-filter : (es : CombinationsWithCounts) → sum_by (λ e. e.1) (filter (λ e. t e.0) es)
      ≡ sum_by (λ e. cond (t e.0) e.1 0) es
  sum-filter [] = refl
  sum-filter (e ∷ es) = by (t e.0) refl (sum-filter es)
    where
      by : (b : Bool) → t e.0 ≡ b → sum_by (λ e. e.1) (filter (λ e. t e.0) es) ≡ sum_by (λ e. cond (t e.0) e.1 0) es →
          sum_by (λ e. e.1) (filter (λ e. t e.0) (e ∷ es)) ≡ sum_by (λ e. cond (t e.0) e.1 0) (e ∷ es)
      by true is on =
          let kept_too : filter (λ e. t e.0)
          (e ∷ es) ≡ e ∷ filter (λ e. t e.0) es = ap (λ b. cond b (e ∷ filter (λ e. t e.0) es)
          (filter (λ e. t e.0) es)) is in
          let here : cond (t e.0) e.1 0 ≡ e.1 = ap (λ b. cond b e.1 0) is in
          ap (sum_by (λ e. e.1)) kept_too
          ∙ omega (
            arith,
            sum_by-cons (λ (e : Combination × ℕ). e.1) e (filter (λ e. t e.0) es),
            sum_by-cons (λ (e : Combination × ℕ). cond (t e.0) e.1 0) e es,
            here,
            on,
          )
      by false is on =
          let left : filter (λ e. t e.0)
          (e ∷ es) ≡ filter (λ e. t e.0) es = ap (λ b. cond b (e ∷ filter (λ e. t e.0) es)
          (filter (λ e. t e.0) es)) is in
          let here : cond (t e.0) e.1 0 ≡ 0 = ap (λ b. cond b e.1 0) is in
          ap (sum_by (λ e. e.1)) left
          ∙ omega (arith, sum_by-cons (λ (e : Combination × ℕ). cond (t e.0) e.1 0) e es, here, on)

  sum-same : (f h : Combination × ℕ → ℕ) (es : CombinationsWithCounts) → All (λ e. f e ≡ h e) es
      → sum_by f es ≡ sum_by h es
  sum-same f h [] all = refl
  sum-same f h (e ∷ es) all =
      let here : f e ≡ h e = all 0 e (omega arith) in
      omega (
        arith,
        sum_by-cons f e es,
        sum_by-cons h e es,
        here,
        sum-same f h es (λ i d within. all (suc i) d (omega (arith, within))),
      )

  get-any : (xs : CombinationsWithCounts) (i : ℕ) (d e : Combination × ℕ) → i < length xs
      → get_or xs i e ≡ get_or xs i d
  get-any [] i d e h = absurd (omega (arith, h))
  get-any (x ∷ xs) zero d e h = refl
  get-any (x ∷ xs) (suc i) d e h = get-any xs i d e (omega (arith, h))

  found-some : (n : ℕ) → 0 < n → found n ≡ Some n
  found-some zero some = absurd (omega (arith, some))
  found-some (suc n) some = refl

  tally-passing : (cells : List Combination) (es : CombinationsWithCounts) → IsTally cells es →
      sum_by (λ e. e.1) (filter (λ e. t e.0) es) ≡ count_by t cells
  tally-passing cells es tally =
      let table = IsFound-from cells es tally in
      sum-filter es
      ∙ sum-same (λ e. cond (t e.0) e.1 0) (passing cells) es (λ i d within.
      let e = get_or es i d in
      ap (λ n. cond (t e.0) n 0) ((tally.counted e.0 e.1).0 (i, within, get-any es i d e within)).1)
      ∙ passing-all es cells (λ i d within.
      let k = get_or cells i d in
      mark-one k es (cell_count_of_combination k cells) table.sorted (table.finds k
      ∙ found-some (cell_count_of_combination k cells) (counts-self cells i d within)))

-- the counts of the entries that pass add up to the number of cells that pass and are kept
pub table-sums : (skip : Skip) (cells : List Combination) (table : CombinationsWithCounts) → IsTable skip cells table →
    (t : Combination → Bool) →
    sum_by (λ pair. pair.1) (filter (λ pair. t pair.0) table) ≡ count_by (λ k. not (combination_is_left_out skip k)
    && t k) cells
table-sums skip cells table is t =
    tally-passing t (kept_cells skip cells) table (kept-IsTable skip cells table is)
    ∙ count-filter t (λ k. not (combination_is_left_out skip k)) cells
