-- Windows over maps: one more window, or one row further.
use Rattle.std.proofs.Common.{◌≡◌, ◌<◌, ◌≤◌, ◌+◌, ℕ, zero, suc, List, [], ◌∷◌, ◌++◌, length, get_or, refl, ap, sym, arith, take, drop, ◌∙◌, Option, Some, None, below_more}
use Rattle.std.proofs.lemmas.List.{take-append-le, take_all}
use Rattle.std.proofs.lemmas.List.Elements.{All-tail}
use Rattle.std.proofs.lemmas.Option.{slice_get-get_or}
use Rattle.std.proofs.Math.ListN.{set}
use Rattle.std.specs.Prelude.{slice_get, slice_index_or, All}
use Rattle.cell_core.specs.Grid.{Grid, CellValue}
use Rattle.cell_calc.specs.Window.{IsWindowOfMap, IsWindowAtRowWithReach}
use Rattle.cell_calc_language.specs.Formula.{Formula}
use Rattle.cell_calc_language.specs.Reach.{rows_read_above_by_formula, rows_read_below_by_formula}
use Rattle.cell_calc.specs.Window.{RowWindowValue, WindowHoldsMapRows}
use Rattle.rcell.specs.parts.WindowsSet.{IsWindowAtRow, AreWindowsOfFirstMapsAtRow, maps_with_optional_first_map}
use Rattle.rcell.specs.parts.WindowsSet.{maps_at_places}

-- appending an item keeps the earlier items, and puts the item at the end
pub before : {A : Type 0} (xs ys : List A) (i : ℕ) → i < length xs → slice_get (xs ++ ys) i ≡ slice_get xs i
before [] ys i lt = absurd (let no : ⊥ = omega arith in no)
before (x ∷ xs) ys zero lt = refl
before (x ∷ xs) ys (suc i) lt = before xs ys i (omega arith)

pub behind : {A : Type 0} (xs : List A) (x : A) (i : ℕ) → length xs ≡ i → slice_get (xs ++ x ∷ []) i ≡ Some x
behind [] x zero e = refl
behind [] x (suc i) e = absurd (let no : ⊥ = omega arith in no)
behind (y ∷ xs) x zero e = absurd (let no : ⊥ = omega arith in no)
behind (y ∷ xs) x (suc i) e = behind xs x i (omega arith)

-- one more window is set at the first row of its map
pub set_more : (f : Formula) (windows : List RowWindowValue) (maps : List Grid) (n : ℕ) (w : RowWindowValue) (m : Grid)
    → length windows ≡ n → AreWindowsOfFirstMapsAtRow f n 0 windows maps → slice_get maps n ≡ Some m
    → w.centre ≡ 0 → (w.above ≡ rows_read_above_by_formula n f) × (w.below ≡ rows_read_below_by_formula n f)
    → WindowHoldsMapRows w m
    → AreWindowsOfFirstMapsAtRow f (n + 1) 0 (windows ++ w ∷ []) maps
set_more f windows maps n w m count set place centre reach window =
    below_more (λ i. IsWindowAtRow 0 (rows_read_above_by_formula i f) (rows_read_below_by_formula i f)
    (slice_get (windows ++ w ∷ []) i) (slice_get maps i)) n
    (λ i lt. let short : i < length windows = omega arith in rw (before windows (w ∷ []) i short) (set i lt))
    (rw (behind windows w n count, place) (centre, (reach.0, (reach.1, window))))

-- a window that is set is over its map
pub set_over : (row up down : ℕ) (w : Option RowWindowValue) (m : Option Grid) → IsWindowAtRow row up down w m
    → IsWindowOfMap w m
set_over row up down None m h = h
set_over row up down (Some w) None h = h
set_over row up down (Some w) (Some m) h = h.1.1.1

pub set_reach : (row up down : ℕ) (w : Option RowWindowValue) (m : Option Grid) → IsWindowAtRow row up down w m
    → IsWindowAtRowWithReach row up down w
set_reach row up down None m h = h
set_reach row up down (Some w) None h = absurd h
set_reach row up down (Some w) (Some m) h = (h.0, (omega (arith, h.1.0), omega (arith, h.1.1.0)))

-- a window that is read is over its map
pub set_read : (row up down i : ℕ) (windows first : List RowWindowValue) (d : RowWindowValue) (maps : List Grid) (m : Grid) → i < length windows → slice_get windows i ≡ slice_get first i
    → slice_get maps i ≡ Some m → IsWindowAtRow row up down (slice_get first i) (slice_get maps i) → IsWindowAtRow row up down (Some (get_or windows i d)) (Some m)
set_read row up down i windows first d maps m lt same place is = rw (sym same ∙ slice_get-get_or windows i d lt, place) at is

-- setting an item changes that item
set_here : {A : Type 0} (xs : List A) (i : ℕ) (x : A) → i < length xs → slice_get (set xs i x) i ≡ Some x
set_here [] i x lt = absurd (let no : ⊥ = omega arith in no)
set_here (y ∷ xs) zero x lt = refl
set_here (y ∷ xs) (suc i) x lt = set_here xs i x (omega arith)

set_other : {A : Type 0} (xs : List A) (i k : ℕ) (x : A) → (k ≡ i → ⊥) → slice_get (set xs i x) k ≡ slice_get xs k
set_other [] i k x apart = refl
set_other (y ∷ xs) zero zero x apart = absurd (apart refl)
set_other (y ∷ xs) zero (suc k) x apart = refl
set_other (y ∷ xs) (suc i) zero x apart = refl
set_other (y ∷ xs) (suc i) (suc k) x apart = set_other xs i k x (λ e. apart (ap suc e))

pub moved_set : (f : Formula) (row i : ℕ) (windows : List RowWindowValue) (maps : List Grid) (w : RowWindowValue) (m : Grid) → i < length windows → AreWindowsOfFirstMapsAtRow f i (row + 1) windows maps
    → slice_get maps i ≡ Some m → IsWindowAtRow (row + 1) (rows_read_above_by_formula i f) (rows_read_below_by_formula i f) (Some w) (Some m) → AreWindowsOfFirstMapsAtRow f (i + 1) (row + 1) (set windows i w) maps
moved_set f row i windows maps w m within done place here =
    below_more (λ k. IsWindowAtRow (row + 1) (rows_read_above_by_formula k f) (rows_read_below_by_formula k f)
    (slice_get (set windows i w) k) (slice_get maps k)) i
    (λ k lt. rw (set_other windows i k w (λ e. omega arith)) (done k lt))
    (rw (set_here windows i w within, place) here)

pub moved_rest : (windows first : List RowWindowValue) (i : ℕ) (w : RowWindowValue) → ((k : ℕ) → i ≤ k → slice_get windows k ≡ slice_get first k)
    → (k : ℕ) → i + 1 ≤ k → slice_get (set windows i w) k ≡ slice_get first k
moved_rest windows first i w rest k past = set_other windows i k w (λ e. omega arith) ∙ rest k (omega arith)

-- the row below is in the map if the counts leave one
pub row_below : {centre row rows a b n : ℕ} → centre ≡ row → rows ≡ a → a ≡ b → n ≡ b → row + 1 < n → centre + 1 < rows
row_below at of same all left = omega arith

pub no_row : (row : ℕ) {n b : ℕ} → n ≡ b → n ≤ row + 1 → row + 1 < b → ⊥
no_row row same past left = omega arith

pub below_same : {i n m : ℕ} → i < n → n ≡ m → i < m
below_same lt same = omega arith

pub below_all : {i n m : ℕ} → i < n → n ≤ m → i < m
below_all lt most = omega arith

pub room_left : {len row n b : ℕ} → len ≡ row → row < n → n ≡ b → len < b
room_left count lt same = omega arith

pub all_rows : {len row n b : ℕ} → len ≡ row → n ≤ row → row ≤ n → n ≡ b → len ≡ b
all_rows count past within same = omega arith

pub row_made : {r b n row : ℕ} → r < b → n ≡ b → n ≤ row → r < row
row_made lt same past = omega arith

pub least : (i : ℕ) → i ≤ i
least i = omega arith

-- each place within the list has a map
pub got : (maps : List Grid) (i : ℕ) → i < length maps → slice_get maps i ≡ None → ⊥
got [] i lt e = let no : ⊥ = omega arith in no
got (m ∷ maps) zero lt e = cc
got (m ∷ maps) (suc i) lt e = got maps i (omega arith) e

-- a map put before others is the first map
pub first : (o : Option Grid) (maps : List Grid) → (o ≡ None → ⊥)
    → slice_get (maps_with_optional_first_map o maps) zero ≡ o
first None maps some = absurd (some refl)
first (Some m) maps some = refl

pub others : (o : Option Grid) (maps : List Grid) (k : ℕ) → (o ≡ None → ⊥) → slice_get (maps_with_optional_first_map o maps) (suc k) ≡ slice_get maps k
others None maps k some = absurd (some refl)
others (Some m) maps k some = refl

-- the maps picked are the maps at the places
pub picked_at : (places : List ℕ) (maps : List Grid) → All (λ place. place < length maps) places
    → (k i : ℕ) → slice_get places k ≡ Some i → slice_get (maps_at_places places maps) k ≡ slice_get maps i
picked_at [] maps within k i e = cc
picked_at (p ∷ places) maps within zero i e =
    let same : p ≡ i = cc in
    first (slice_get maps p) (maps_at_places places maps) (got maps p (within zero p (omega arith))) ∙ ap (λ j. slice_get maps j) same
picked_at (p ∷ places) maps within (suc k) i e =
    others (slice_get maps p) (maps_at_places places maps) k (got maps p (within zero p (omega arith)))
    ∙ picked_at places maps (All-tail (λ place. place < length maps) p places within) k i e

-- each place read from the list has its map
pub map_read : (places : List ℕ) (maps : List Grid) (i d : ℕ) (m : Grid) → All (λ place. place < length maps) places → i < length places
    → slice_get maps (get_or places i d) ≡ Some m → slice_get (maps_at_places places maps) i ≡ Some m
map_read places maps i d m within lt e = picked_at places maps within i (get_or places i d) (slice_get-get_or places i d lt) ∙ e

-- appending rows does not change earlier rows
row_before : (rows more : List (List CellValue)) (r : ℕ) → r < length rows → slice_index_or (rows ++ more) r [] ≡ slice_index_or rows r []
row_before [] more r lt = absurd (let no : ⊥ = omega arith in no)
row_before (x ∷ rows) more zero lt = refl
row_before (x ∷ rows) more (suc r) lt = row_before rows more r (omega arith)

row_behind : (rows : List (List CellValue)) (new : List CellValue) (r : ℕ) → length rows ≡ r → slice_index_or (rows ++ new ∷ []) r [] ≡ new
row_behind [] new zero e = refl
row_behind [] new (suc r) e = absurd (let no : ⊥ = omega arith in no)
row_behind (x ∷ rows) new zero e = absurd (let no : ⊥ = omega arith in no)
row_behind (x ∷ rows) new (suc r) e = row_behind rows new r (omega arith)

pub rows_more : (P : ℕ → List CellValue → Type 0) (rows : List (List CellValue)) (new : List CellValue) (n : ℕ)
    → length rows ≡ n → ((r : ℕ) → r < n → P r (slice_index_or rows r [])) → P n new
    → (r : ℕ) → r < n + 1 → P r (slice_index_or (rows ++ new ∷ []) r [])
rows_more P rows new n count done last =
    below_more (λ r. P r (slice_index_or (rows ++ new ∷ []) r [])) n
    (λ r lt. let short : r < length rows = omega arith in rw (row_before rows (new ∷ []) r short) (done r lt))
    (rw (row_behind rows new n count) last)

-- a slice of the length of the list replaces the whole list
pub written : {A : Type 0} (n : ℕ) (new old : List A) → n ≡ length old → length new ≡ length old → take n (new ++ drop (length new) old) ≡ new
written n new old all same = take-append-le n new (drop (length new) old) (omega arith) ∙ take_all n new (omega arith)
