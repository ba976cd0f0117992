-- Rows whose cells are written one by one.
use Rattle.std.proofs.Common.{◌≡◌, ◌≢◌, ◌<◌, ◌≤◌, ◌+◌, ℕ, List, length, get_or, set, ◌∙◌, arith, None, below_more}
use Rattle.std.proofs.Common.{get_or-set_same, get_or-set_other}
use Rattle.std.proofs.lemmas.List.{get_or_default}
use Rattle.cell_core.specs.Grid.{CellValue}
use Rattle.cell_calc.specs.RowValues.{at}

-- an index within a row is within each row of the same length
pub within_same : (row old : List CellValue) (i : ℕ) → length row ≡ length old → i < length old → i < length row
within_same row old i e lt = rw e lt

-- a column within the row is before the index at which the loop ended
pub before_end : (n i c : ℕ) → n ≤ i → c < n → c < i
before_end n i c le lt = omega arith

-- a cell that was read is the row's cell at that index
pub read : (row : List CellValue) (i : ℕ) (cell : CellValue) → i < length row → cell ≡ get_or row i cell
    → cell ≡ at row i
read row i cell lt is = is ∙ get_or_default row i cell None lt

-- a cell that was read and not yet overwritten is the old row's cell
pub read_old : (row old : List CellValue) (i : ℕ) (cell : CellValue) → i < length row
    → cell ≡ get_or row i cell → ((c : ℕ) → i ≤ c → at row c ≡ at old c) → cell ≡ at old i
read_old row old i cell lt is rest = read row i cell lt is ∙ rest i (omega arith)

-- writing the next cell extends the cells that have the property
pub one_more : (P : ℕ → CellValue → Type 0) (row : List CellValue) (i : ℕ) (cell : CellValue) → i < length row
    → ((c : ℕ) → c < i → P c (at row c)) → P i cell → (c : ℕ) → c < i + 1 → P c (at (set row i cell) c)
one_more P row i cell lt done here c less =
    let before : (k : ℕ) → k < i → P k (at (set row i cell) k) = (λ k below.
    let other : k ≢ i = omega arith in
    rw (get_or-set_other row i k cell None other) (done k below)) in
    let now : P i (at (set row i cell) i) = rw (get_or-set_same row i cell None lt) here in
    below_more (λ k. P k (at (set row i cell) k)) i before now c less

-- the cells after the written cell are unchanged
pub others_stay : (row old : List CellValue) (i : ℕ) (cell : CellValue) → ((c : ℕ) → i ≤ c → at row c ≡ at old c)
    → (c : ℕ) → i + 1 ≤ c → at (set row i cell) c ≡ at old c
others_stay row old i cell rest c le =
    let other : c ≢ i = omega arith in
    get_or-set_other row i c cell None other ∙ rest c (omega arith)
