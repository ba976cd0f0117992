-- Maps at offsets: the cells that they read, and their number of cells.
use Rattle.std.proofs.Common.{◌≡◌, ℕ, zero, suc, ℤ, pos, negsuc, ◌≤◌, ◌+ℤ◌, List, [], ◌∷◌, ◌++◌, length}
use Rattle.std.proofs.Common.{get_or, Option, Some, None, All, refl, ap, sym, ◌∙◌, arith, inl, inr, ⊎_elim, ◌⊎◌}
use Rattle.std.specs.Prelude.{slice_get}
use Rattle.std.proofs.Math.IntN.{+ℤ_assoc, +ℤ_comm}
use Rattle.std.proofs.lemmas.Bool.{cases_lt}
use Rattle.std.proofs.lemmas.List.{get_or_past}
use Rattle.cell_core_values.specs.Region.{RegionValue}
use Rattle.cell_core.specs.Grid.{Grid, CellValue, RowsFillRegion}
use Rattle.cell_calc_language.specs.Offsets.{item_at_integer_or_default, cell_of_optional_map, cell_of_map_or_null}
use Rattle.cell_calc_language.specs.Offsets.{row_of_map_or_empty}
use Rattle.rcell_plan.specs.ShiftLaw.{ShiftsAddUp, NullBeyondTheEdge}

-- ---- offsets add up

last-of : {X : Type 0} (xs : List X) (x : X) → slice_get (xs ++ x ∷ []) (length xs) ≡ Some x
last-of [] x = refl
last-of (y ∷ xs) x = last-of xs x

steps-add : (from to : ℕ) (a c : ℤ) → pos from +ℤ c ≡ pos to → pos to +ℤ a ≡ pos from +ℤ (a +ℤ c)
steps-add from to a c step =
    ap (λ z. z +ℤ a) (sym step) ∙ +ℤ_assoc (pos from) c a ∙ ap (λ z. pos from +ℤ z) (+ℤ_comm c a)

pub shifts-add-up : ShiftsAddUp
shifts-add-up shelf place a b c d name x y z are_x are_y are_z row col r l in_row in_col row_on row_in col_on col_in =
    are_y.cells row col in_row in_col
    ∙ ap (λ o. cell_of_optional_map o (pos row +ℤ c) (pos col +ℤ d)) (last-of shelf.maps x)
    ∙ ap (λ z. cell_of_map_or_null x z (pos col +ℤ d)) row_on
    ∙ ap (λ z. cell_of_map_or_null x (pos r) z) col_on
    ∙ are_x.cells r l row_in col_in
    ∙ ap (λ z. cell_of_optional_map (slice_get shelf.maps place) z (pos l +ℤ b)) (steps-add row r a c row_on)
    ∙ ap (λ z. cell_of_optional_map (slice_get shelf.maps place) (pos row +ℤ (a +ℤ c)) z) (steps-add col l b d col_on)
    ∙ sym (are_z.cells row col in_row in_col)

-- ---- beyond the edge

item-beyond : {A : Type 0} (outside : A) (xs : List A) (total : ℕ) (z : ℤ) → length xs ≤ total
    → ((to : ℕ) → z ≡ pos to → total ≤ to) → item_at_integer_or_default outside xs z ≡ outside
item-beyond outside xs total (pos n) most far = get_or_past xs n outside (omega (arith, most, far n refl))
item-beyond outside xs total (negsuc n) most far = refl

nothing-there : (z : ℤ) → item_at_integer_or_default {A = CellValue} None [] z ≡ None
nothing-there (pos n) = refl
nothing-there (negsuc n) = refl

-- no row has more cells than the region has columns
row-most : (region : RegionValue) (rows : List (List CellValue)) → RowsFillRegion region rows → (z : ℤ)
    → length (item_at_integer_or_default [] rows z) ≤ region.cols
row-most region rows filled (negsuc i) = omega arith
row-most region rows filled (pos i) =
    ⊎_elim (λ within. let e = filled.width i [] within in omega (arith, e))
    (λ past. let e : length (get_or rows i []) ≡ 0 = ap length (get_or_past rows i [] past) in omega (arith, e))
    (cases_lt i (length rows))

module _ (region : RegionValue) where
  abbrev Fills : Option Grid → Type 0
  Fills None = Unit {0}
  Fills (Some m) = RowsFillRegion region m.rows

  fills-at : (maps : List Grid) (place : ℕ) → All (λ m. RowsFillRegion region m.rows) maps
      → Fills (slice_get maps place)
  fills-at [] place all = tt
  fills-at (m ∷ maps) zero all = all 0 m (omega arith)
  fills-at (m ∷ maps) (suc place) all = fills-at maps place (λ i d lt. all (suc i) d (omega (arith, lt)))

  row-beyond : (o : Option Grid) → Fills o → (r c : ℤ) → ((to : ℕ) → r ≡ pos to → region.rows ≤ to)
      → cell_of_optional_map o r c ≡ None
  row-beyond None fills r c far = refl
  row-beyond (Some m) fills r c far =
      ap (λ l. item_at_integer_or_default None l c) (item-beyond [] m.rows region.rows r
      (omega (arith, fills.count)) far)
      ∙ nothing-there c

  col-beyond : (o : Option Grid) → Fills o → (r c : ℤ) → ((to : ℕ) → c ≡ pos to → region.cols ≤ to)
      → cell_of_optional_map o r c ≡ None
  col-beyond None fills r c far = refl
  col-beyond (Some m) fills r c far = item-beyond None (row_of_map_or_empty m r) region.cols c
      (row-most region m.rows fills r) far

pub null-beyond-the-edge : NullBeyondTheEdge
null-beyond-the-edge shelf place a b x all are row col row_lt col_lt far = are.cells row col row_lt col_lt ∙ by far
  where
    o : Option Grid
    o = slice_get shelf.maps place

    by :
        ((to : ℕ) → pos row +ℤ a ≡ pos to → shelf.region.rows ≤ to)
        ⊎ ((to : ℕ) → pos col +ℤ b ≡ pos to → shelf.region.cols ≤ to)
        → cell_of_optional_map (slice_get shelf.maps place) (pos row +ℤ a) (pos col +ℤ b) ≡ None
    by (inl rows) =
        row-beyond shelf.region (slice_get shelf.maps place) (fills-at shelf.region shelf.maps place all) _ _ rows
    by (inr cols) =
        col-beyond shelf.region (slice_get shelf.maps place) (fills-at shelf.region shelf.maps place all) _ _ cols
