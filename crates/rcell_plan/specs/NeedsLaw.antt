-- What needs mean: the value of a map at a cell does not depend on any cell outside the map's needs.
use Rattle.std.specs.Prelude.{ℕ, ℤ, ◌≡◌, ◌≤◌, ◌+ℤ◌, Bool, true, false, List, [], ◌∷◌, length, All, Option, slice_get}
use Rattle.cell_core_values.specs.Region.{RegionValue}
use Rattle.cell_core.specs.Grid.{Grid, RowsFillRegion}
use Rattle.cell_core.specs.Shelf.{ShelfValue}
use Rattle.cell_calc_language.specs.Grammatical.{cell_count_up_or_left, cell_count_down_or_right}
use Rattle.cell_calc_language.specs.Offsets.{cell_of_optional_map}
use Rattle.rcell_script.specs.declared.statement.Statement.{Statement}
use Rattle.rcell.specs.After.{IsShelfAfterCommand}
use Rattle.rcell_plan.specs.declared.needs.Margin.{Margin}
use Rattle.rcell_plan.specs.declared.needs.MapNeed.{MapNeed}
use Rattle.rcell_plan.specs.Plans.{needs_of_map_at_place, needs_after_command, needs_of_given_maps}

-- the offset is within the margin
pub record OffsetStaysWithinMargin (margin : Margin) (rows cols : ℤ) : Type 0 where
  pub up : cell_count_up_or_left rows ≤ margin.up
  pub down : cell_count_down_or_right rows ≤ margin.down
  pub left : cell_count_up_or_left cols ≤ margin.left
  pub right : cell_count_down_or_right cols ≤ margin.right

-- the maps are equal if the full map is needed; otherwise they agree within a margin around a row and a column
abbrev pub MapsAgreeWithinMarginOrInFull : (whole : Bool) → Margin → (a b : Option Grid) → (row col : ℤ) → Type 0
MapsAgreeWithinMarginOrInFull true margin a b row col = a ≡ b
MapsAgreeWithinMarginOrInFull false margin a b row col =
    (rows cols : ℤ) → OffsetStaysWithinMargin margin rows cols
    → cell_of_optional_map a (row +ℤ rows) (col +ℤ cols) ≡ cell_of_optional_map b
    (row +ℤ rows) (col +ℤ cols)

-- two shelves agree in a need around a row and a column
abbrev pub ShelvesAgreeInNeed : (a b : List Grid) → (row col : ℤ) → MapNeed → Type 0
ShelvesAgreeInNeed a b row col n = MapsAgreeWithinMarginOrInFull n.whole n.margin (slice_get a n.place)
    (slice_get b n.place) row col

-- the map has the given region and fills it
pub record MapFillsRegion (region : RegionValue) (m : Grid) : Type 0 where
  pub region_is : m.region ≡ region
  pub filled : RowsFillRegion region m.rows

-- two shelves with one region and the same number of maps
pub record ShelvesHaveSameRegionAndMapCount (a b : ShelfValue) : Type 0 where
  pub region : a.region ≡ b.region
  pub count : length b.maps ≡ length a.maps
  pub first : All (MapFillsRegion a.region) a.maps
  pub second : All (MapFillsRegion a.region) b.maps

-- the shelf after the statements
abbrev pub IsShelfAfterStatements : ShelfValue → List Statement → ShelfValue → Type 0
IsShelfAfterStatements shelf [] after = shelf ≡ after
IsShelfAfterStatements shelf (s ∷ ss) after = (next : ShelfValue) ×
    (IsShelfAfterCommand shelf s.command next × IsShelfAfterStatements next ss after)

-- the needs of the known maps after the statements
abbrev pub needs_after_statements : List (List MapNeed) → List Statement → List (List MapNeed)
needs_after_statements known [] = known
needs_after_statements known (s ∷ ss) = needs_after_statements (needs_after_command known s.command) ss

-- after the same statements, a map has the same value at a cell on both shelves, if the given shelves agree in the
-- map's needs there
abbrev pub MapNeedsAreEnough : Type 0
MapNeedsAreEnough = (a b x y : ShelfValue) (statements : List Statement) → ShelvesHaveSameRegionAndMapCount a b
    → IsShelfAfterStatements a statements x → IsShelfAfterStatements b statements y
    → (place : ℕ) (row col : ℤ) → All (ShelvesAgreeInNeed a.maps b.maps row col)
    (needs_of_map_at_place (needs_after_statements (needs_of_given_maps (length a.maps)) statements) place)
    → cell_of_optional_map (slice_get x.maps place) row col ≡ cell_of_optional_map (slice_get y.maps place) row col
