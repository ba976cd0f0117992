-- Spans of categories, tables of values by category, and rows of such values.
use Rattle.std.proofs.Common.{◌≡◌, ◌<◌, ◌≤◌, ◌+◌, ◌-◌, ◌^◌, ℕ, zero, suc, pos, List, [], ◌∷◌, ◌++◌, length, take}
use Rattle.std.proofs.Common.{drop, map, get_or, replicate, refl, sym, ap, subst, ◌∙◌, arith, Some, None, Bool}
use Rattle.std.proofs.Common.{true, false, append_assoc, length-append, length-drop, below_more}
use Rattle.std.specs.Prelude.{All, nat_lt, ◌==◌, if◌then◌else◌}
use Rattle.std.proofs.lemmas.Int.{ints}
use Rattle.std.proofs.lemmas.List.{map-append, take_at, length-take-le, length-replicate, get_or_append_left}
use Rattle.std.proofs.lemmas.List.{get_or-append_right, get_or_at, get_or-map, get_or-append-add}
use Rattle.cell_core.specs.Grid.{CellValue}
use Rattle.cell_core.specs.Runs.{RunValue, cells_of_runs}
use Rattle.cell_core_values.specs.SmallCells.{cell_of_stored_byte, cells_of_bytes}
use Rattle.cell_calc.specs.RowValues.{at}
use Rattle.cell_calc_categories.specs.declared.span.CategoryInterval.{CategoryInterval}
use Rattle.cell_calc_categories.specs.parts.CategorySpans.{IsValidCategoryInterval, IsCellInCategoryInterval}
use Rattle.cell_calc_categories.specs.parts.CategorySpans.{IsTablePlaceOfCell}
use Rattle.cell_calc_categories.specs.parts.CategorySpans.{IsTableSizeOfInterval}
use Rattle.cell_calc_categories.specs.parts.ValueTables.{IsTableOfFunctionValues, AreValueBytesOfByteCells}

-- the index of a cell of the span lies within the table
pub in_table : (s : CategoryInterval) (p n : ℕ) (x : CellValue) → IsTableSizeOfInterval s n
    → IsCellInCategoryInterval s x
    → IsTablePlaceOfCell s p x → p < n
in_table s p n None size within place = omega (arith, ints, size, place)
in_table s p n (Some v) size within place = omega (arith, ints, size, place, within.0, within.1)

-- two cells at the same index of a span are equal
pub one_cell : (s : CategoryInterval) (p : ℕ) (x y : CellValue) → IsCellInCategoryInterval s x
    → IsCellInCategoryInterval s y → IsTablePlaceOfCell s p x
    → IsTablePlaceOfCell s p y → x ≡ y
one_cell s p None None wx wy ax ay = refl
one_cell s p None (Some v) wx wy ax ay = absurd (let no : ⊥ = omega (arith, ints, ax, ay, wy.1) in no)
one_cell s p (Some v) None wx wy ax ay = absurd (let no : ⊥ = omega (arith, ints, ax, ay, wx.1) in no)
one_cell s p (Some v) (Some w) wx wy ax ay = ap (λ z. Some z) (omega (arith, ints, ax, ay))

-- each byte stands for a cell within the span
pub byte_within : (s : CategoryInterval) → IsValidCategoryInterval s → (b : ℕ) → b < 256
    → IsCellInCategoryInterval s (cell_of_stored_byte b)
byte_within s is b lt = by_case (b == 255) refl
  where
    by_case : (t : Bool) → (b == 255) ≡ t → IsCellInCategoryInterval s (if t then None else Some (pos b))
    by_case true e = tt
    by_case false e =
        let below : b < 255 = grind arith in
        (omega (arith, ints, is.zero), omega (arith, ints, is.bytes))

-- a byte table gives the function's value at each looked-up byte
pub bytes_of_each : (f : CellValue → CellValue) (table values bytes : List ℕ) → length values ≡ length bytes
    → AreValueBytesOfByteCells f table
    → ((i : ℕ) → get_or bytes i 0 < 256)
    → ((c : ℕ) → c < length bytes → get_or values c 0 ≡ get_or table (get_or bytes c 0) 0)
    → cells_of_bytes values ≡ map f (cells_of_bytes bytes)
bytes_of_each f table [] [] e is few each = refl
bytes_of_each f table [] (b ∷ bs) e is few each = absurd (let no : ⊥ = omega (arith, e) in no)
bytes_of_each f table (v ∷ vs) [] e is few each = absurd (let no : ⊥ = omega (arith, e) in no)
bytes_of_each f table (v ∷ vs) (b ∷ bs) e is few each =
    let head : cell_of_stored_byte v ≡ f (cell_of_stored_byte b) = ap cell_of_stored_byte (each zero (omega arith))
    ∙ is b (few zero) in
    ap (λ w. w ∷ cells_of_bytes vs) head
    ∙ ap (λ l. f (cell_of_stored_byte b) ∷ l) (bytes_of_each f table vs bs (omega (arith, e)) is (λ i. few (suc i))
    (λ c lt. each (suc c) (omega (arith, lt))))

-- if all items and an appended item have a property, all items of the longer list have it
pub item_pushed : {A : Type 0} (d : A) (P : ℕ → A → Type 0) (old : List A) (x : A) (n : ℕ) → length old ≡ n
    → ((k : ℕ) → k < n → P k (get_or old k d)) → P n x → (k : ℕ) → k < n + 1 → P k (get_or (old ++ x ∷ []) k d)
item_pushed d P old x n count done here =
    below_more (λ k. P k (get_or (old ++ x ∷ []) k d)) n
    (λ k below. let lt : k < length old = omega (arith, below, count) in subst (P k) (sym (get_or_append_left old
    (x ∷ []) d k lt)) (done k below))
    (subst (P n) (sym (get_or_at old x [] d n count)) here)

-- if all cells and an appended cell have a property, all cells of the longer row have it
pub one_pushed : (P : ℕ → CellValue → Type 0) (old : List CellValue) (x : CellValue) (n : ℕ) → length old ≡ n
    → ((k : ℕ) → k < n → P k (at old k)) → P n x → (k : ℕ) → k < n + 1 → P k (at (old ++ x ∷ []) k)
one_pushed = item_pushed None

-- appending the values of more cells extends a table
pub table_more : (f : CellValue → CellValue) (s : CategoryInterval) (old new cells : List CellValue)
    (from width : ℕ) → new ≡ old ++ map f cells
    → length old ≡ from → length cells ≡ width
    → ((x : CellValue) (p : ℕ) → p < from → IsCellInCategoryInterval s x → IsTablePlaceOfCell s p x → at old p ≡ f x)
    → ((i : ℕ) → i < width → IsTablePlaceOfCell s (from + i) (at cells i))
    → ((i : ℕ) → i < width → IsCellInCategoryInterval s (at cells i))
    → (x : CellValue) (p : ℕ) → p < from + width → IsCellInCategoryInterval s x → IsTablePlaceOfCell s p x
    → at new p ≡ f x
table_more f s old new cells from width is count wide before places withins x p lt within place = by_case
    (nat_lt p from) refl
  where
    by_case : (b : Bool) → nat_lt p from ≡ b → at new p ≡ f x
    by_case true h =
        let below : p < from = grind arith in
        rw is (get_or_append_left old (map f cells) None p (omega (arith, below, count)))
        ∙ before x p below within place
    by_case false h =
        let above : from ≤ p = grind arith in
        let i : ℕ = p - from in
        let there : from + (p - from) ≡ p = omega arith in
        let lt' : p - from < width = omega (arith, lt, above) in
        let here : p - from < length cells = omega (arith, lt', wide) in
        let found : IsTablePlaceOfCell s p (at cells (p - from)) = subst
        (λ q. IsTablePlaceOfCell s q (at cells (p - from))) there (places
        (p - from) lt') in
        rw is (get_or-append_right old (map f cells) from p None count above)
        ∙ get_or-map f cells (p - from) None None here
        ∙ ap f (one_cell s p (at cells (p - from)) x (withins (p - from) lt') within found place)

-- the cell of the first stretch is within the span
pub first_within : (s : CategoryInterval) (cell : CellValue) (n : ℕ) (old rest : List RunValue)
    → old ≡ (cell, n) ∷ rest → 0 < n
    → All (IsCellInCategoryInterval s) (cells_of_runs old) → IsCellInCategoryInterval s cell
first_within s cell zero old rest next some all = absurd (let no : ⊥ = omega (arith, some) in no)
first_within s cell (suc n) old rest next some all =
    (rw next at all) zero None (omega arith)

-- the cells of the stretches after the first are within the span
pub rest_within : (s : CategoryInterval) (cell : CellValue) (n : ℕ) (old rest : List RunValue) → old ≡ (cell, n) ∷ rest
    → All (IsCellInCategoryInterval s) (cells_of_runs old) → All (IsCellInCategoryInterval s) (cells_of_runs rest)
rest_within s cell n old rest next all = λ i d lt.
    let first : List CellValue = replicate n cell in
    let whole : cells_of_runs old ≡ first ++ cells_of_runs rest = ap (λ l. cells_of_runs l) next in
    let there : length first + i < length (cells_of_runs old) = omega (
      arith,
      ap
          (λ l. length l) whole,
      length-append first (cells_of_runs rest),
      lt,
    ) in
    subst (IsCellInCategoryInterval s) (ap (λ l. get_or l (length first + i) d) whole
    ∙ get_or-append-add first (cells_of_runs rest) i d)
    (all (length first + i) d there)

map-replicate : (f : CellValue → CellValue) (n : ℕ) (x : CellValue) → map f (replicate n x) ≡ replicate n (f x)
map-replicate f zero x = refl
map-replicate f (suc n) x = ap (λ l. f x ∷ l) (map-replicate f n x)

-- a row extended by one more stretch
module _ (row new : List CellValue) (from n : ℕ) (cell x : CellValue) (old rest : List RunValue) (next : old ≡
    (cell, n) ∷ rest)
    (within : from + length (cells_of_runs old) ≡ length row) where
  count : length (cells_of_runs old) ≡ n + length (cells_of_runs rest)
  count = ap (λ l. length (cells_of_runs l)) next ∙ length-append (replicate n cell) (cells_of_runs rest)
      ∙ ap (λ k. k + length (cells_of_runs rest)) (length-replicate n cell)

  pub room : from + n ≤ length row
  room = omega (arith, within, count)

  module _ (filled : new ≡ take from row ++ replicate n x ++ drop (from + n) row) where
    done : length (take from row ++ replicate n x) ≡ from + n
    done = length-append (take from row) (replicate n x) ∙ omega (
      arith,
      length-take-le from row (omega
          (arith, within, count)),
      length-replicate n x,
    )

    pub width_more : from + n + length (cells_of_runs rest) ≡ length new
    width_more =
        let wide : length new ≡ (from + n) + length (drop (from + n) row) =
        ap (λ l. length l) filled ∙ length-append (take from row ++ replicate n x) (drop (from + n) row)
        ∙ ap (λ k. k + length (drop (from + n) row)) done in
        omega (arith, wide, within, count, length-drop (from + n) row)

    pub stretch_more : (f : CellValue → CellValue) (all : List CellValue) → x ≡ f cell
        → take from row ++ map f (cells_of_runs old) ≡ all
        → take (from + n) new ++ map f (cells_of_runs rest) ≡ all
    stretch_more f all applied whole =
        let run : map f (cells_of_runs old) ≡ replicate n x ++ map f (cells_of_runs rest) =
        ap (λ l. map f (cells_of_runs l)) next ∙ map-append f (replicate n cell) (cells_of_runs rest)
        ∙ ap (λ l. l ++ map f (cells_of_runs rest)) (map-replicate f n cell ∙ ap (replicate n) (sym applied)) in
        let first : take (from + n) new ≡ take from row ++ replicate n x =
        ap (take (from + n)) filled ∙ take_at (take from row ++ replicate n x) (drop (from + n) row)
        (from + n) done in
        ap (λ l. l ++ map f (cells_of_runs rest)) first ∙ append_assoc (take from row) (replicate n x) (map f
        (cells_of_runs rest))
        ∙ ap (λ l. take from row ++ l) (sym run) ∙ whole
