-- Sums over the cells of a map.
use Rattle.std.proofs.Common.{◌≡◌, ℕ, zero, suc, ◌+◌, ◌*◌, ◌<◌, ◌≤◌, refl, arith, add-one, subst}
use Rattle.cell_patches.specs.Patches.{sum_over_first_columns, sum_over_cells_of_first_rows}
use Rattle.cell_patches.specs.parts.Passes.{sum_over_earlier_cells}

-- the sum up to the next cell adds the value of this cell
pub earlier_more : (cols : ℕ) (f : ℕ → ℕ → ℕ) (r c : ℕ)
    → sum_over_earlier_cells cols f r (c + 1) ≡ sum_over_earlier_cells cols f r c + f r c
unfolding sum_over_first_columns
earlier_more cols f r c = rw add-one (omega arith)

-- the sum up to the next column adds the value of this column
pub columns_more : (f : ℕ → ℕ) (c : ℕ) → sum_over_first_columns f (c + 1) ≡ sum_over_first_columns f c + f c
unfolding sum_over_first_columns
columns_more f c = rw add-one refl

-- a sum over a run of equal values is the number of its cells times the value
pub run_of_equal : (f : ℕ → ℕ) (value c n : ℕ) → ((b : ℕ) → b < n → f (c + b) ≡ value)
    → sum_over_first_columns f (c + n) ≡ sum_over_first_columns f c + n * value
unfolding sum_over_first_columns
run_of_equal f value c zero same = let e : c + 0 ≡ c = omega arith in rw e (omega arith)
run_of_equal f value c (suc n) same =
    let e : c + suc n ≡ suc (c + n) = omega arith in
    let before = run_of_equal f value c n (λ b lt. same b (omega arith)) in
    let here = same n (omega arith) in
    rw e (grind arith)

-- a sum of the north and south sides of a run, which begins at column c of the tile and column `at` of the map
pub run_of_ends : (f north south : ℕ → ℕ) (c at n : ℕ)
    → ((b : ℕ) → b < n → f (c + b) ≡ north (at + b) + south (at + b))
    → sum_over_first_columns f (c + n) + (sum_over_first_columns north at + sum_over_first_columns south at)
    ≡ sum_over_first_columns f c + (sum_over_first_columns north (at + n) + sum_over_first_columns south (at + n))
unfolding sum_over_first_columns
run_of_ends f north south c at zero each =
    let e : c + 0 ≡ c = omega arith in let d : at + 0 ≡ at = omega arith in rw (e, d) refl
run_of_ends f north south c at (suc n) each =
    let e : c + suc n ≡ suc (c + n) = omega arith in
    let d : at + suc n ≡ suc (at + n) = omega arith in
    let before = run_of_ends f north south c at n (λ b lt. each b (omega arith)) in
    let here = each n (omega arith) in
    rw (e, d) (omega arith)

-- inside a run, no west or east side counts
pub run_of_flanks : (f west east : ℕ → ℕ) (c at n : ℕ)
    → ((b : ℕ) → b ≤ n → f (c + b) ≡ west (at + b) + east (at + b))
    → ((b : ℕ) → b < n → east (at + b) + west (suc (at + b)) ≡ 0)
    → sum_over_first_columns f (c + suc n) ≡ sum_over_first_columns f c + (west at + east (at + n))
unfolding sum_over_first_columns
run_of_flanks f west east c at zero each inner =
    let e : c + 1 ≡ suc c = omega arith in
    let d : c + 0 ≡ c = omega arith in
    let g : at + 0 ≡ at = omega arith in
    let here : f c ≡ west at + east at = subst (λ x. f x ≡ west at + east at) d
    (subst (λ x. f (c + 0) ≡ west x + east x) g (each 0 (omega arith))) in
    rw (e, g) (omega arith)
run_of_flanks f west east c at (suc n) each inner =
    let e : c + suc (suc n) ≡ suc (c + suc n) = omega arith in
    let g : at + suc n ≡ suc (at + n) = omega arith in
    let before = run_of_flanks f west east c at n (λ b le. each b (omega arith)) (λ b lt. inner b (omega arith)) in
    let between = inner n (omega arith) in
    let here : f (c + suc n) ≡ west (suc (at + n)) + east (suc (at + n)) =
    subst (λ x. f (c + suc n) ≡ west x + east x) g (each (suc n) (omega arith)) in
    rw (e, g) (omega arith)

-- the sum up to the start of the next row is the sum up to the end of this row
pub earlier_row : (cols : ℕ) (f : ℕ → ℕ → ℕ) (r : ℕ) → sum_over_earlier_cells cols f (r + 1) 0
    ≡ sum_over_earlier_cells cols f r cols
unfolding sum_over_first_columns sum_over_cells_of_first_rows
earlier_row cols f r = rw add-one (omega arith)

-- the sum before the first cell is 0
pub earlier_none : (cols : ℕ) (f : ℕ → ℕ → ℕ) → sum_over_earlier_cells cols f 0 0 ≡ 0
unfolding sum_over_first_columns sum_over_cells_of_first_rows
earlier_none cols f = refl

pub earlier_all : (cols : ℕ) (f : ℕ → ℕ → ℕ) (r : ℕ) → sum_over_earlier_cells cols f r 0
    ≡ sum_over_cells_of_first_rows f cols r
unfolding sum_over_first_columns
earlier_all cols f r = omega arith

-- a sum of values that are at most `most` is at most their number times `most`
cols_most : (f : ℕ → ℕ) (most c : ℕ) → ((b : ℕ) → f b ≤ most) → sum_over_first_columns f c ≤ c * most
unfolding sum_over_first_columns
cols_most f most zero small = omega arith
cols_most f most (suc c) small = let before = cols_most f most c small in let here = small c in grind arith

rows_most : (f : ℕ → ℕ → ℕ) (most cols r : ℕ) → ((a b : ℕ) → f a b ≤ most)
    → sum_over_cells_of_first_rows f cols r ≤ r * (cols * most)
unfolding sum_over_cells_of_first_rows
rows_most f most cols zero small = omega arith
rows_most f most cols (suc r) small =
    let before = rows_most f most cols r small in let here = cols_most (f r) most cols (small r) in grind arith

pub earlier_most : (f : ℕ → ℕ → ℕ) (most cols r c : ℕ) → ((a b : ℕ) → f a b ≤ most)
    → sum_over_earlier_cells cols f r c ≤ r * (cols * most) + c * most
earlier_most f most cols r c small =
    let rows = rows_most f most cols r small in let here = cols_most (f r) most c (small r) in omega arith

-- a sum of values that are all 0 is 0
cols_none : (f : ℕ → ℕ) (c : ℕ) → ((b : ℕ) → f b ≡ 0) → sum_over_first_columns f c ≡ 0
unfolding sum_over_first_columns
cols_none f zero none = refl
cols_none f (suc c) none = let before = cols_none f c none in let here = none c in omega arith

-- sums of equal values are equal
cols_all : (f g : ℕ → ℕ) (c : ℕ) → ((b : ℕ) → f b ≡ g b) → sum_over_first_columns f c ≡ sum_over_first_columns g c
unfolding sum_over_first_columns
cols_all f g zero same = refl
cols_all f g (suc c) same = let before = cols_all f g c same in let here = same c in omega arith

pub rows_all : (f g : ℕ → ℕ → ℕ) (cols r : ℕ) → ((a b : ℕ) → f a b ≡ g a b)
    → sum_over_cells_of_first_rows f cols r ≡ sum_over_cells_of_first_rows g cols r
unfolding sum_over_cells_of_first_rows
rows_all f g cols zero same = refl
rows_all f g cols (suc r) same =
    let before = rows_all f g cols r same in let here = cols_all (f r) (g r) cols (same r) in omega arith

-- a sum does not change if the other rows hold only zeros
pub rows_end : (f : ℕ → ℕ → ℕ) (cols r more : ℕ) → ((a b : ℕ) → r ≤ a → f a b ≡ 0)
    → sum_over_cells_of_first_rows f cols (r + more) ≡ sum_over_cells_of_first_rows f cols r
unfolding sum_over_cells_of_first_rows
rows_end f cols r zero none = let e : r + 0 ≡ r = omega arith in rw e refl
rows_end f cols r (suc more) none =
    let e : r + suc more ≡ suc (r + more) = omega arith in
    let before = rows_end f cols r more none in
    let here = cols_none (f (r + more)) cols (λ b. none (r + more) b (omega arith)) in
    rw e (omega arith)
