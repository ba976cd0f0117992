-- Windows of the maps that an expression reads.
use Rattle.std.specs.Prelude.{◌≡◌, ◌<◌, ℕ, List, [], ◌∷◌, length, All, Option, Some, None, slice_get}
use Rattle.cell_core.specs.Grid.{Grid}
use Rattle.cell_core_values.specs.Region.{RegionValue}
use Rattle.cell_calc_language.specs.Formula.{Formula}
use Rattle.cell_calc_language.specs.Reach.{rows_read_above_by_formula, rows_read_below_by_formula}
use Rattle.cell_calc.specs.Window.{RowWindowValue, WindowHoldsMapRows}

-- there is a map at each place
abbrev pub AreMapPlaces : List Grid → List ℕ → Type 0
AreMapPlaces maps places = All (λ place. place < length maps) places

-- each map has this region
abbrev pub MapsHaveRegion : RegionValue → List Grid → Type 0
MapsHaveRegion region maps = All (λ m. m.region ≡ region) maps

-- a window of a map, centred at `row`, with `up` rows above and `down` rows below
abbrev pub IsWindowAtRow : (row up down : ℕ) → Option RowWindowValue → Option Grid → Type 0
IsWindowAtRow row up down None m = ⊥
IsWindowAtRow row up down (Some w) None = ⊥
IsWindowAtRow row up down (Some w) (Some m) = (w.centre ≡ row)
    × ((w.above ≡ up) × ((w.below ≡ down) × WindowHoldsMapRows w m))

-- the first `count` maps have windows that reach as far as the formula does
abbrev pub AreWindowsOfFirstMapsAtRow : Formula → (count row : ℕ) → List RowWindowValue → List Grid → Type 0
AreWindowsOfFirstMapsAtRow f count row windows maps = (i : ℕ) → i < count → IsWindowAtRow row (rows_read_above_by_formula i f) (rows_read_below_by_formula i f) (slice_get windows i) (slice_get maps i)

-- the maps, preceded by another map if there is one
abbrev pub maps_with_optional_first_map : Option Grid → List Grid → List Grid
maps_with_optional_first_map None maps = maps
maps_with_optional_first_map (Some m) maps = m ∷ maps

-- the maps at these places, in the order of the places
abbrev pub maps_at_places : List ℕ → List Grid → List Grid
maps_at_places [] maps = []
maps_at_places (i ∷ places) maps = maps_with_optional_first_map (slice_get maps i) (maps_at_places places maps)
