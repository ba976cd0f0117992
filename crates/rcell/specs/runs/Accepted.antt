-- An accepted script over grids of one region (r.in.ascii, r.stats and r.out.ascii manuals; names, the common region
-- and the form of scripts: profile).
use Rattle.std.specs.Prelude.{◌≡◌, ◌<◌, ◌≤◌, false, List, length, map, All}
use Rattle.std.specs.List.{AllZip}
use Rattle.cell_core_devices.specs.Device.{ComingBytes}
use Rattle.cell_core_values.specs.Name.{AreDistinctNames}
use Rattle.cell_core.specs.Shelf.{ShelfValue}
use Rattle.cell_ascii_meaning.specs.GridText.{SourceDenotesMap}
use Rattle.rcell.specs.Sources.{Named}
use Rattle.rcell_script.specs.Scripts.{IsScript}
use Rattle.rcell_script.specs.declared.statement.Statement.{Statement}

-- the shelf contains the maps that the grids' texts denote, in order, with distinct names and one region
pub record ShelfHoldsGrids (grids : List Named) (shelf : ShelfValue) : Type 0 where
  pub some : 0 < length grids
  pub denote : AllZip (λ g m. SourceDenotesMap g.1 m) grids shelf.maps
  pub names : shelf.names ≡ map (λ g. g.0) grids
  pub distinct : AreDistinctNames shelf.names
  pub one_region : All (λ m. m.region ≡ shelf.region) shelf.maps

-- the grids have one region, and the script has at most 1048576 bytes and denotes statements over the grids' names
pub record AreGridsAndScriptAccepted (grids : List Named) (script : ComingBytes) (shelf : ShelfValue) (statements : List Statement) : Type 0 where
  pub loaded : ShelfHoldsGrids grids shelf
  pub ends : script.fails ≡ false
  pub short : length script.bytes ≤ 1048576
  pub denoted : IsScript shelf.names script.bytes statements
