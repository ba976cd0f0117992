-- Running a script over full maps or over a tile (profile).
use Rattle.std.specs.Prelude.{ℕ, ◌≡◌, List, [], ◌∷◌, Option, Some, None, slice_get}
use Rattle.cell_calc_language.specs.Formula.{Formula}
use Rattle.cell_clumps.specs.declared.clump.Joining.{Joining}
use Rattle.cell_core_values.specs.Region.{RegionValue}
use Rattle.cell_core.specs.Grid.{Grid}
use Rattle.cell_core.specs.Shelf.{ShelfValue}
use Rattle.rcell_script.specs.declared.command.Command.{Command}
use Rattle.rcell_script.specs.declared.command.Command.TheVariants.{Mapcalc, Reclass, Clump, Stats, OutAscii}
use Rattle.rcell_script.specs.declared.statement.Statement.{Statement}
use Rattle.rcell.specs.After.{IsShelfAfterCommand}
use Rattle.rcell.specs.Making.{IsMapOfClumpNumbers, MapExistsAndSatisfiesRelation, shelf_with_map_at_end}
use Rattle.rcell.specs.Making.{IsShelfAfterMapcalc, IsShelfAfterReclass}
use Rattle.rcell_plan.specs.TileLaw.{placed}
use Rattle.rcell_tile.specs.TilePlaces.{TilePlaceValue}
use Rattle.rcell_tile.specs.TileMaps.{full_region, tile_map, tile_shelf, map_with_null_halo}

-- the maps of a run: of a tile with its halo, if there is a place, otherwise full maps
pub record RunShelvesValue : Type 0 where
  pub outer : ShelfValue
  pub place : Option TilePlaceValue

-- the maps of a run over full maps
abbrev pub shelves_of_full_maps : ShelfValue → RunShelvesValue
shelves_of_full_maps shelf = record { outer = shelf; place = None }

-- the maps without halo, if there is a place
abbrev pub shelf_without_halo : Option TilePlaceValue → ShelfValue → ShelfValue
shelf_without_halo None shelf = shelf
shelf_without_halo (Some p) shelf = tile_shelf p shelf

-- the maps whose cells are counted and written: full maps, or the maps of the tile without its halo
abbrev pub inner_shelf : RunShelvesValue → ShelfValue
inner_shelf shelves = shelf_without_halo shelves.place shelves.outer

-- the expression in a tile: row() and col() count in the full map, and nrows() and ncols() are its numbers
abbrev pub expression_in_tile : TilePlaceValue → RegionValue → Formula → Formula
expression_in_tile p region f = placed (full_region p region) p.outer f

-- r.clump in a tile: clumps are numbered in the tile alone, and the halo is null
abbrev pub IsTileShelfAfterClump : TilePlaceValue → ShelfValue → (place : ℕ) → (target : List ℕ) → Joining → ShelfValue
    → Type 0
IsTileShelfAfterClump p shelf place target joining after = (numbers : Grid) ×
    (MapExistsAndSatisfiesRelation (λ m. IsMapOfClumpNumbers joining (tile_map p m) numbers)
    (slice_get shelf.maps place)
    × (after ≡ shelf_with_map_at_end shelf target (map_with_null_halo p shelf.region numbers)))

-- the maps of a tile, with their halo, after a command
abbrev pub IsTileShelfAfterCommand : TilePlaceValue → ShelfValue → Command → ShelfValue → Type 0
IsTileShelfAfterCommand p shelf (Mapcalc target bound) after =
    IsShelfAfterMapcalc shelf target (expression_in_tile p shelf.region bound) after
IsTileShelfAfterCommand p shelf (Reclass place target rules) after =
    IsShelfAfterReclass shelf place target rules after
IsTileShelfAfterCommand p shelf (Clump place target joining) after =
    IsTileShelfAfterClump p shelf place target joining after
IsTileShelfAfterCommand p shelf (Stats places options) after = after ≡ shelf
IsTileShelfAfterCommand p shelf (OutAscii place null_text) after = after ≡ shelf

-- the maps after a command, in a tile if there is a place
abbrev pub IsOuterShelfAfterCommand : Option TilePlaceValue → ShelfValue → Command → ShelfValue → Type 0
IsOuterShelfAfterCommand None shelf command after = IsShelfAfterCommand shelf command after
IsOuterShelfAfterCommand (Some p) shelf command after = IsTileShelfAfterCommand p shelf command after

-- the maps of a run after a command
pub record AreShelvesAfterCommand (shelves : RunShelvesValue) (command : Command) (after : RunShelvesValue)
    : Type 0 where
  pub place : after.place ≡ shelves.place
  pub outer : IsOuterShelfAfterCommand shelves.place shelves.outer command after.outer

-- the maps of a run after the statements
abbrev pub AreShelvesAfterStatements : RunShelvesValue → List Statement → RunShelvesValue → Type 0
AreShelvesAfterStatements shelves [] after = shelves ≡ after
AreShelvesAfterStatements shelves (s ∷ ss) after = (next : RunShelvesValue) ×
    (AreShelvesAfterCommand shelves s.command next × AreShelvesAfterStatements next ss after)
