-- Windows that reach an offset, and the rows that the windows hold.
use Rattle.std.proofs.Common.{◌≡◌, ◌<◌, ◌+◌, ℕ, zero, suc, ℤ, pos, negsuc, refl, ◌+ℤ◌, ◌-ℤ◌, ◌<ℤ◌, List, [], ◌∷◌, length, get_or, sym, ap, arith, Some}
use Rattle.std.specs.Prelude.{slice_get}
use Rattle.std.proofs.lemmas.Int.{ints}
use Rattle.cell_core.specs.Grid.{CellValue}
use Rattle.cell_calc_language.specs.Offsets.{item_at_integer_or_default}
use Rattle.cell_calc.specs.Window.{RowWindowValue, WindowReachesOffset}
use Rattle.cell_calc.specs.WindowsOver.{row_below_window_centre}
use Rattle.cell_calc.specs.parts.InReach.{SomeWindowReachesOffset}

-- a window that was read at index i is window i of the list
pub window_at : (windows : List RowWindowValue) (i : ℕ) (w : RowWindowValue) → i < length windows → w ≡ get_or windows i w → slice_get windows i ≡ Some w
window_at [] i w lt is = absurd (let no : ⊥ = omega arith in no)
window_at (v ∷ windows) zero w lt is = ap (λ v. Some v) (sym is)
window_at (v ∷ windows) (suc i) w lt is = window_at windows i w (omega arith) is

-- an index that has a window in reach of an offset is within the list
pub within : (windows : List RowWindowValue) (i : ℕ) (down : ℤ) → SomeWindowReachesOffset down (slice_get windows i)
    → i < length windows
within [] i down h = absurd h
within (v ∷ windows) zero down h = omega arith
within (v ∷ windows) (suc i) down h = let lt : i < length windows = within windows i down h in omega arith

pub reach_in_map_at_place : (windows : List RowWindowValue) (i : ℕ) (down : ℤ) (w : RowWindowValue) → SomeWindowReachesOffset down (slice_get windows i) → w ≡ get_or windows i w → WindowReachesOffset w down
reach_in_map_at_place windows i down w ready is = rw (window_at windows i w (within windows i down ready) is) at ready

-- the row of window i at an offset is the row that was read
pub row_at : (windows : List RowWindowValue) (i : ℕ) (down : ℤ) (w : RowWindowValue) (row : List CellValue) → SomeWindowReachesOffset down (slice_get windows i) → w ≡ get_or windows i w
    → row ≡ row_below_window_centre down (Some w) → row ≡ row_below_window_centre down (slice_get windows i)
row_at windows i down w row ready is held = rw (window_at windows i w (within windows i down ready) is) held

-- the row at an offset from the centre is the held row at that offset, or empty if there is none
pub held_below : (held : List (List CellValue)) (centre first i : ℕ) (down : ℤ) (row : List CellValue)
    → pos (first + i) ≡ pos centre +ℤ down → row ≡ get_or held i [] → row ≡ item_at_integer_or_default [] held ((pos centre +ℤ down) -ℤ pos first)
held_below held centre first i down row place is =
    let e : (pos centre +ℤ down) -ℤ pos first ≡ pos i = omega (arith, ints, place) in rw e is

pub none_below : (held : List (List CellValue)) (centre first : ℕ) (down : ℤ) → (pos centre +ℤ down) <ℤ pos first
    → [] ≡ item_at_integer_or_default [] held ((pos centre +ℤ down) -ℤ pos first)
none_below held centre first down lt = none_at held ((pos centre +ℤ down) -ℤ pos first) (omega (arith, ints, lt))
  where
    none_at : (held : List (List CellValue)) (z : ℤ) → z <ℤ pos 0 → [] ≡ item_at_integer_or_default [] held z
    none_at held (pos n) h = absurd (let no : ⊥ = omega (arith, ints, h) in no)
    none_at held (negsuc n) h = refl
