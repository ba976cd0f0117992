-- The maps that r.mapcalc, r.reclass and r.clump make (their manuals); each is added at the end of the shelf (profile).
use Rattle.std.specs.Prelude.{ℕ, ◌≡◌, ◌<◌, List, [], ◌∷◌, ◌++◌, Option, Some, None, slice_get}
use Rattle.cell_calc_language.specs.Formula.{Formula}
use Rattle.cell_calc_language.specs.Applied.{grid_position}
use Rattle.cell_calc_language.specs.Value.{value}
use Rattle.cell_cats.specs.Reclass.{reclassed_map}
use Rattle.cell_cats.specs.Rule.{RuleValue}
use Rattle.cell_clumps.specs.Clumps.{IsClumpMapOf}
use Rattle.cell_clumps.specs.declared.clump.Joining.{Joining}
use Rattle.cell_core.specs.Grid.{Grid, RowsFillRegion, cell_at, empty_category_labels}
use Rattle.cell_core.specs.Shelf.{ShelfValue}

-- r.mapcalc: the map has the shelf's region, no labels, and the value of the expression at each cell
pub record IsMapOfExpressionValues (bound : Formula) (shelf : ShelfValue) (made : Grid) : Type 0 where
  pub region : made.region ≡ shelf.region
  pub filled : RowsFillRegion made.region made.rows
  pub labels : made.labels ≡ empty_category_labels
  pub cells : (r c : ℕ) → r < shelf.region.rows → c < shelf.region.cols → cell_at made r c ≡ value bound shelf.maps (grid_position shelf.region r c)

-- r.clump: the map contains the clump numbers of the given map
pub record IsMapOfClumpNumbers (joining : Joining) (given made : Grid) : Type 0 where
  pub filled : RowsFillRegion made.region made.rows
  pub clumping : IsClumpMapOf joining given made

-- the map exists and satisfies a relation
abbrev pub MapExistsAndSatisfiesRelation : (Grid → Type 0) → Option Grid → Type 0
MapExistsAndSatisfiesRelation holds None = ⊥
MapExistsAndSatisfiesRelation holds (Some m) = holds m

-- adds a map at the end of the shelf
abbrev pub shelf_with_map_at_end : ShelfValue → List ℕ → Grid → ShelfValue
shelf_with_map_at_end shelf name map = record { region = shelf.region; names = shelf.names ++ name ∷ []; maps = shelf.maps ++ map ∷ [] }

-- the shelf after an r.mapcalc
abbrev pub IsShelfAfterMapcalc : ShelfValue → (target : List ℕ) → Formula → ShelfValue → Type 0
IsShelfAfterMapcalc shelf target bound after = (made : Grid) × (IsMapOfExpressionValues bound shelf made × (after ≡ shelf_with_map_at_end shelf target made))

-- the shelf after an r.reclass of the map at index `place`
abbrev pub IsShelfAfterReclass : ShelfValue → (place : ℕ) → (target : List ℕ) → List RuleValue → ShelfValue → Type 0
IsShelfAfterReclass shelf place target rules after = MapExistsAndSatisfiesRelation (λ m. after ≡ shelf_with_map_at_end shelf target (reclassed_map rules m)) (slice_get shelf.maps place)

-- the shelf after an r.clump of the map at index `place`
abbrev pub IsShelfAfterClump : ShelfValue → (place : ℕ) → (target : List ℕ) → Joining → ShelfValue → Type 0
IsShelfAfterClump shelf place target joining after = (made : Grid) × (MapExistsAndSatisfiesRelation (λ m. IsMapOfClumpNumbers joining m made) (slice_get shelf.maps place) × (after ≡ shelf_with_map_at_end shelf target made))
