-- The maps of a tile agree with the full maps around the tile: they have the same cells at positions that lead there.
use Rattle.std.proofs.Common.{◌≡◌, ℕ, ℤ, pos, negsuc, ◌-◌, ◌<◌, ◌≤◌, List, [], length, get_or}
use Rattle.std.proofs.Common.{Option, Some, None, inl, inr, ⊎_elim, ◌⊎◌, refl, ap, sym, subst, ◌∙◌, arith}
use Rattle.std.specs.Prelude.{All, Bool, false, slice_get}
use Rattle.std.proofs.lemmas.Bool.{cases_lt}
use Rattle.std.proofs.lemmas.List.{get_or_past}
use Rattle.cell_core_values.specs.Region.{RegionValue}
use Rattle.cell_core.specs.Grid.{Grid, CellValue, RowsFillRegion}
use Rattle.cell_core.specs.Shelf.{ShelfValue}
use Rattle.cell_calc_language.specs.Offsets.{item_at_integer_or_default, cell_of_optional_map}
use Rattle.rcell_plan.specs.declared.needs.Margin.{Margin}
use Rattle.rcell_tile.specs.declared.halo_margins.HaloMargin.{HaloMargin}
use Rattle.rcell_tile.specs.ClumpDependence.{map_depends_on_clump}
use Rattle.rcell_tile.specs.HaloMargins.{margin_of_map_at_place}
use Rattle.rcell_tile.specs.TilePlaces.{TilePlaceValue, IsValidTilePlace}
use Rattle.rcell_tile.proofs.LimitLemmas.{Stretches, AreStretches, IsWithinLimits, LimitsFit, IsOutside, IsSameIndex}
use Rattle.rcell_tile.proofs.LimitLemmas.{AreBothOutside, LeavesLimit}

-- the rows and the columns of a place
abbrev pub rows_of : TilePlaceValue → Stretches
rows_of p = record { total = p.rows; first = p.outer.top; count = p.outer.rows; start = p.tile.top; size = p.tile.rows }

abbrev pub columns_of : TilePlaceValue → Stretches
columns_of p = record {
  total = p.cols;
  first = p.outer.left;
  count = p.outer.cols;
  start = p.tile.left;
  size = p.tile.cols;
}

pub rows-are : (p : TilePlaceValue) → IsValidTilePlace p → AreStretches (rows_of p)
rows-are p valid = record { start = valid.tile.top; end = valid.tile.bottom; last = omega (arith, valid.outer.bottom) }

pub columns-are : (p : TilePlaceValue) → IsValidTilePlace p → AreStretches (columns_of p)
columns-are p valid = record {
  start = valid.tile.left;
  end = valid.tile.right;
  last = omega (arith, valid.outer.right);
}

-- the margin is inside the halo, or has no limit where the maps end with the full map
pub record MarginFits (p : TilePlaceValue) (margin : HaloMargin) : Type 0 where
  pub rows : LimitsFit (rows_of p) margin.up margin.down
  pub cols : LimitsFit (columns_of p) margin.left margin.right

-- the margin leaves a read to cells within the made margin
pub record LeavesMargin (made : HaloMargin) (reach : Margin) (margin : HaloMargin) : Type 0 where
  pub up : LeavesLimit made.up reach.up margin.up
  pub down : LeavesLimit made.down reach.down margin.down
  pub left : LeavesLimit made.left reach.left margin.left
  pub right : LeavesLimit made.right reach.right margin.right

-- the cell of the full map is within the margin around the tile
pub record IsWithinMargin (p : TilePlaceValue) (margin : HaloMargin) (row col : ℕ) : Type 0 where
  pub rows : IsWithinLimits (rows_of p) margin.up margin.down row
  pub cols : IsWithinLimits (columns_of p) margin.left margin.right col

-- a map of the tile has the cells of a full map within a margin
abbrev pub MapsAgree : TilePlaceValue → HaloMargin → (part full : Option Grid) → Type 0
MapsAgree p margin part full =
    (row col : ℕ) → row < p.rows → col < p.cols → IsWithinMargin p margin row col
    → cell_of_optional_map part (pos (row - p.outer.top)) (pos (col - p.outer.left))
    ≡ cell_of_optional_map full (pos row) (pos col)

-- the map, if there is one, fills a region
abbrev pub FillsIfMap : RegionValue → Option Grid → Type 0
FillsIfMap region None = Unit {0}
FillsIfMap region (Some m) = RowsFillRegion region m.rows

-- a map of the tile agrees with a full map within a margin that fits
pub record MapsAgreeInTile (p : TilePlaceValue) (outer full : RegionValue) (margin : HaloMargin)
    (part whole : Option Grid) : Type 0 where
  pub part_fills : FillsIfMap outer part
  pub whole_fills : FillsIfMap full whole
  pub fits : MarginFits p margin
  pub agree : MapsAgree p margin part whole

-- maps that depend on an r.clump need not agree
abbrev pub MapsAgreeUnlessClump : TilePlaceValue → (outer full : RegionValue) → Bool → HaloMargin
    → (part whole : Option Grid) → Type 0
MapsAgreeUnlessClump p outer full depends margin part whole =
    depends ≡ false → MapsAgreeInTile p outer full margin part whole

-- the relation between the maps of a tile and the full maps while statements are executed
pub record ShelvesAgreeInTile (p : TilePlaceValue) (clumps : List Bool) (known : List HaloMargin)
    (part whole : ShelfValue) : Type 0 where
  pub valid : IsValidTilePlace p
  pub outer_rows : part.region.rows ≡ p.outer.rows
  pub outer_cols : part.region.cols ≡ p.outer.cols
  pub full_rows : whole.region.rows ≡ p.rows
  pub full_cols : whole.region.cols ≡ p.cols
  pub clump_count : length clumps ≡ length known
  pub part_count : length part.maps ≡ length known
  pub whole_count : length whole.maps ≡ length known
  pub maps : (place : ℕ) → MapsAgreeUnlessClump p part.region whole.region (map_depends_on_clump clumps place)
      (margin_of_map_at_place known place) (slice_get part.maps place) (slice_get whole.maps place)

-- ---- cells outside a map

nothing-there : (w : ℤ) → item_at_integer_or_default {A = CellValue} None [] w ≡ None
nothing-there (pos i) = refl
nothing-there (negsuc i) = refl

outside-item : {A : Type 0} (none : A) (xs : List A) (count : ℕ) (z : ℤ) → length xs ≤ count → IsOutside count z
    → item_at_integer_or_default none xs z ≡ none
outside-item none xs count (pos i) le out = get_or_past xs i none (omega (arith, le, out))
outside-item none xs count (negsuc i) le out = refl

row-length : (cols : ℕ) (rows : List (List CellValue)) → All (λ row. length row ≡ cols) rows → (z : ℤ)
    → length (item_at_integer_or_default [] rows z) ≤ cols
row-length cols rows wide (pos i) =
    ⊎_elim (λ within. let e = wide i [] within in omega (arith, e))
    (λ past. let e : length (get_or rows i []) ≡ 0 = ap length (get_or_past rows i [] past) in omega (arith, e))
    (cases_lt i (length rows))
row-length cols rows wide (negsuc i) = omega arith

null-row : (region : RegionValue) (o : Option Grid) (z w : ℤ) → FillsIfMap region o → IsOutside region.rows z
    → cell_of_optional_map o z w ≡ None
null-row region None z w fills out = refl
null-row region (Some m) z w fills out =
    let most : length m.rows ≤ region.rows = omega (arith, fills.count) in
    ap (λ l. item_at_integer_or_default None l w) (outside-item [] m.rows region.rows z most out) ∙ nothing-there w

null-column : (region : RegionValue) (o : Option Grid) (z w : ℤ) → FillsIfMap region o → IsOutside region.cols w
    → cell_of_optional_map o z w ≡ None
null-column region None z w fills out = refl
null-column region (Some m) z w fills out =
    outside-item None (item_at_integer_or_default [] m.rows z) region.cols w
    (row-length region.cols m.rows fills.width z) out

-- ---- a read at an offset

module _ (p : TilePlaceValue) (outer full : RegionValue) (outer_rows : outer.rows ≡ p.outer.rows)
    (outer_cols : outer.cols ≡ p.outer.cols) (full_rows : full.rows ≡ p.rows) (full_cols : full.cols ≡ p.cols)
    (margin : HaloMargin) (part whole : Option Grid) (h : MapsAgreeInTile p outer full margin part whole) where
  -- both maps have one cell at positions that are the same cell within the margin, or outside
  pub same-cell : (z w x y : ℤ)
      → ((j : ℕ) × IsSameIndex (rows_of p) margin.up margin.down z x j) ⊎ AreBothOutside (rows_of p) z x
      → ((j : ℕ) × IsSameIndex (columns_of p) margin.left margin.right w y j) ⊎ AreBothOutside (columns_of p) w y
      → cell_of_optional_map part z w ≡ cell_of_optional_map whole x y
  same-cell z w x y (inr out) cols =
      null-row outer part z w h.part_fills (subst (λ n. IsOutside n z) (sym outer_rows) out.here)
      ∙ sym (null-row full whole x y h.whole_fills (subst (λ n. IsOutside n x) (sym full_rows) out.there))
  same-cell z w x y (inl row) (inr out) =
      null-column outer part z w h.part_fills (subst (λ n. IsOutside n w) (sym outer_cols) out.here)
      ∙ sym (null-column full whole x y h.whole_fills (subst (λ n. IsOutside n y) (sym full_cols) out.there))
  same-cell z w x y (inl row) (inl col) =
      let high = row.1 in
      let wide = col.1 in
      (λ i. cell_of_optional_map part (high.here i) (wide.here i))
      ∙ h.agree row.0 col.0 high.inside wide.inside (record { rows = high.within; cols = wide.within })
      ∙ (λ i. cell_of_optional_map whole (sym high.there i) (sym wide.there i))
