-- Reads grids onto a shelf, in order, up to the first error (profile).
use Rattle.std.specs.Prelude.{ℕ, ◌+◌, List, [], ◌∷◌, ◌++◌, Option, Some, None, Result, Ok, Err, if◌then◌else◌}
use Rattle.cell_core.specs.Grid.{Grid}
use Rattle.cell_core_values.specs.Name.{place_of_name}
use Rattle.cell_core_values.specs.SameRegion.{is_same_region}
use Rattle.cell_core.specs.Shelf.{ShelfValue}
use Rattle.cell_ascii_meaning.specs.CellTexts.{map_denoted_by_text}
use Rattle.cell_ascii_meaning.specs.declared.grid_fault.GridFault.{GridFault}
use Rattle.rcell.specs.Sources.{Named}
use Rattle.rcell.specs.declared.run_fault.RunFault.{RunFault}
use Rattle.rcell.specs.declared.run_fault.RunFault.TheVariants as faults

-- a shelf with one map, whose region is the region of the shelf
abbrev pub shelf_of_one_map : List ℕ → Grid → ShelfValue
shelf_of_one_map name map = record { region = map.region; names = name ∷ []; maps = map ∷ [] }

-- adds a map to the shelf; a name that is already on the shelf is reported before a different region
abbrev pub shelf_with_map : ℕ → ShelfValue → List ℕ → Grid → Option ℕ → Result ShelfValue RunFault
shelf_with_map grid shelf name map (Some place) = Err (faults.GridTwice grid)
shelf_with_map grid shelf name map None = if is_same_region map.region shelf.region then Ok (record shelf { names = shelf.names ++ name ∷ []; maps = shelf.maps ++ map ∷ [] }) else Err (faults.GridRegion grid)

-- adds a map to the shelf, or creates a shelf with the first map
abbrev pub shelf_with_map_or_new : ℕ → Option ShelfValue → List ℕ → Grid → Result ShelfValue RunFault
shelf_with_map_or_new grid None name map = Ok (shelf_of_one_map name map)
shelf_with_map_or_new grid (Some shelf) name map = shelf_with_map grid shelf name map (place_of_name name shelf.names)

-- adds the grid with index `grid` to the shelf, or returns its error
abbrev pub shelf_with_next_grid : ℕ → Option ShelfValue → List ℕ → Result Grid GridFault → Result ShelfValue RunFault
shelf_with_next_grid grid shelf name (Ok map) = shelf_with_map_or_new grid shelf name map
shelf_with_next_grid grid shelf name (Err fault) = Err (faults.Grid grid fault)

-- continues with the remaining grids, unless there was an error
abbrev pub continue_with_remaining_grids : (ShelfValue → Result (Option ShelfValue) RunFault) → Result ShelfValue RunFault → Result (Option ShelfValue) RunFault
continue_with_remaining_grids rest (Ok shelf) = rest shelf
continue_with_remaining_grids rest (Err fault) = Err fault

-- adds the remaining grids, starting at index `grid`
unfoldable pub shelf_with_remaining_grids : ℕ → Option ShelfValue → List Named → Result (Option ShelfValue) RunFault
shelf_with_remaining_grids grid shelf [] = Ok shelf
shelf_with_remaining_grids grid shelf (g ∷ gs) = continue_with_remaining_grids (λ s. shelf_with_remaining_grids (grid + 1) (Some s) gs) (shelf_with_next_grid grid shelf g.0 (map_denoted_by_text g.1))

-- the shelf of the grids: each is read completely, in order
abbrev pub shelf_of_grids : List Named → Result (Option ShelfValue) RunFault
shelf_of_grids grids = shelf_with_remaining_grids 0 None grids
