-- Sums over the cells of a map, of a rectangle of it, and of several tiles.
use Rattle.std.proofs.Common.{◌≡◌, ◌∙◌, ℕ, zero, suc, ◌+◌, ◌-◌, ◌<◌, ◌≤◌, List, [], ◌∷◌, refl, ap, sym, arith}
use Rattle.std.proofs.Common.{sum_by}
use Rattle.std.proofs.lemmas.List.Sums.{sum_by-cons}
use Rattle.cell_patches.specs.Patches.{sum_over_first_columns, sum_over_cells_of_first_rows}

pub line-same : (f g : ℕ → ℕ) (n : ℕ) → ((c : ℕ) → c < n → f c ≡ g c)
    → sum_over_first_columns f n ≡ sum_over_first_columns g n
unfolding sum_over_first_columns
line-same f g zero same = refl
line-same f g (suc n) same =
    let before = line-same f g n (λ c lt. same c (omega (arith, lt))) in
    let here = same n (omega arith) in
    omega (arith, before, here)

line-none : (f : ℕ → ℕ) (n : ℕ) → ((c : ℕ) → c < n → f c ≡ 0) → sum_over_first_columns f n ≡ 0
unfolding sum_over_first_columns
line-none f zero none = refl
line-none f (suc n) none =
    let before = line-none f n (λ c lt. none c (omega (arith, lt))) in
    let here = none n (omega arith) in
    omega (arith, before, here)

line-plus : (f g : ℕ → ℕ) (n : ℕ)
    → sum_over_first_columns (λ c. f c + g c) n ≡ sum_over_first_columns f n + sum_over_first_columns g n
unfolding sum_over_first_columns
line-plus f g zero = refl
line-plus f g (suc n) = let before = line-plus f g n in omega (arith, before)

line-shift : (f : ℕ → ℕ) (a b : ℕ)
    → sum_over_first_columns f (a + b) ≡ sum_over_first_columns f a + sum_over_first_columns (λ c. f (a + c)) b
unfolding sum_over_first_columns
line-shift f a zero = let e : a + 0 ≡ a = omega arith in rw e (omega arith)
line-shift f a (suc b) =
    let e : a + suc b ≡ suc (a + b) = omega arith in
    let before = line-shift f a b in
    rw e (omega (arith, before))

-- the sum over `b` columns from `a`, if the other columns contribute nothing
line-part : (f : ℕ → ℕ) (a b n : ℕ) → a + b ≤ n → ((c : ℕ) → c < a → f c ≡ 0)
    → ((c : ℕ) → a + b ≤ c → f c ≡ 0)
    → sum_over_first_columns f n ≡ sum_over_first_columns (λ c. f (a + c)) b
line-part f a b n inside low high =
    let rest = n - (a + b) in
    let e : n ≡ a + (b + rest) = omega (arith, inside) in
    let one = line-shift f a (b + rest) in
    let two = line-shift (λ c. f (a + c)) b rest in
    let before = line-none f a low in
    let after = line-none (λ c. f (a + (b + c))) rest (λ c lt. high (a + (b + c)) (omega arith)) in
    ap (sum_over_first_columns f) e ∙ omega (arith, one, two, before, after)

-- the sum over rows and columns is a sum of sums
nested : (f : ℕ → ℕ → ℕ) (cols n : ℕ)
    → sum_over_cells_of_first_rows f cols n ≡ sum_over_first_columns (λ r. sum_over_first_columns (f r) cols) n
unfolding sum_over_first_columns sum_over_cells_of_first_rows
nested f cols zero = refl
nested f cols (suc n) = let before = nested f cols n in omega (arith, before)

pub cells-same : (f g : ℕ → ℕ → ℕ) (cols rows : ℕ)
    → ((r c : ℕ) → r < rows → c < cols → f r c ≡ g r c)
    → sum_over_cells_of_first_rows f cols rows ≡ sum_over_cells_of_first_rows g cols rows
cells-same f g cols rows same =
    nested f cols rows
    ∙ line-same (λ r. sum_over_first_columns (f r) cols) (λ r. sum_over_first_columns (g r) cols) rows
    (λ r lt. line-same (f r) (g r) cols (λ c less. same r c lt less))
    ∙ sym (nested g cols rows)

cells-none : (cols rows : ℕ) → sum_over_cells_of_first_rows (λ r c. 0) cols rows ≡ 0
cells-none cols rows =
    nested (λ r c. 0) cols rows
    ∙ line-none (λ r. sum_over_first_columns (λ c. 0) cols) rows (λ r lt. line-none (λ c. 0) cols (λ c less. refl))

cells-plus : (f g : ℕ → ℕ → ℕ) (cols rows : ℕ)
    → sum_over_cells_of_first_rows (λ r c. f r c + g r c) cols rows
    ≡ sum_over_cells_of_first_rows f cols rows + sum_over_cells_of_first_rows g cols rows
cells-plus f g cols rows =
    let both = nested (λ r c. f r c + g r c) cols rows in
    let one = nested f cols rows in
    let other = nested g cols rows in
    let lines = line-same (λ r. sum_over_first_columns (λ c. f r c + g r c) cols)
    (λ r. sum_over_first_columns (f r) cols + sum_over_first_columns (g r) cols) rows
    (λ r lt. line-plus (f r) (g r) cols) in
    let added = line-plus (λ r. sum_over_first_columns (f r) cols) (λ r. sum_over_first_columns (g r) cols) rows in
    omega (arith, both, one, other, lines, added)

-- the sum over a rectangle, if the other cells contribute nothing
pub cells-part : (f : ℕ → ℕ → ℕ) (top left height width rows cols : ℕ) → top + height ≤ rows → left + width ≤ cols
    → ((r c : ℕ) → r < top → f r c ≡ 0) → ((r c : ℕ) → top + height ≤ r → f r c ≡ 0)
    → ((r c : ℕ) → c < left → f r c ≡ 0) → ((r c : ℕ) → left + width ≤ c → f r c ≡ 0)
    → sum_over_cells_of_first_rows f cols rows
    ≡ sum_over_cells_of_first_rows (λ r c. f (top + r) (left + c)) width height
cells-part f top left height width rows cols high wide above below west east =
    nested f cols rows
    ∙ line-part (λ r. sum_over_first_columns (f r) cols) top height rows high
    (λ r lt. line-none (f r) cols (λ c less. above r c lt)) (λ r le. line-none (f r) cols (λ c less. below r c le))
    ∙ line-same (λ r. sum_over_first_columns (f (top + r)) cols)
    (λ r. sum_over_first_columns (λ c. f (top + r) (left + c)) width) height
    (λ r lt. line-part (f (top + r)) left width cols wide (west (top + r)) (east (top + r)))
    ∙ sym (nested (λ r c. f (top + r) (left + c)) width height)

-- a sum over cells of sums over a list is a sum over the list of sums over cells
pub cells-of-list : {X : Type 0} (f : X → ℕ → ℕ → ℕ) (xs : List X) (cols rows : ℕ)
    → sum_over_cells_of_first_rows (λ r c. sum_by (λ x. f x r c) xs) cols rows
    ≡ sum_by (λ x. sum_over_cells_of_first_rows (f x) cols rows) xs
cells-of-list f [] cols rows = cells-none cols rows
cells-of-list f (x ∷ xs) cols rows =
    let more = cells-of-list f xs cols rows in
    let first = cells-same (λ r c. sum_by (λ y. f y r c) (x ∷ xs)) (λ r c. f x r c + sum_by (λ y. f y r c) xs) cols rows
    (λ r c lt less. sum_by-cons (λ y. f y r c) x xs) in
    let both = cells-plus (f x) (λ r c. sum_by (λ y. f y r c) xs) cols rows in
    let all = sum_by-cons (λ y. sum_over_cells_of_first_rows (f y) cols rows) x xs in
    omega (arith, more, first, both, all)
