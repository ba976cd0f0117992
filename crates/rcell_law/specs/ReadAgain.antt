-- The maps that r.out.ascii wrote are the grids of a second run, which has the same output over them.
use Rattle.std.specs.Prelude.{ℕ, suc, ◌≡◌, ◌≤◌, ◌<◌, ◌↔◌, Bool, false, List, [], ◌∷◌, length, map, All}
use Rattle.cell_core_values.specs.Name.{AreDistinctNames}
use Rattle.cell_core_devices.specs.Device.{ComingBytes}
use Rattle.cell_core.specs.Shelf.{ShelfValue}
use Rattle.cell_ascii_meaning.specs.Writing.{IsValidNullText}
use Rattle.cell_ascii_law.specs.WrittenLaw.{map_without_labels, IsWritableMap}
use Rattle.rcell.specs.Sources.{Named}
use Rattle.rcell_script.specs.declared.command.Command.{Command}
use Rattle.rcell_script.specs.declared.command.Command.TheVariants.{Mapcalc, Reclass, Clump, Stats, OutAscii}
use Rattle.rcell_script.specs.Scripts.{IsScript}
use Rattle.rcell_script.specs.declared.statement.Statement.{Statement}
use Rattle.rcell.specs.Output.{IsOutputOfStatements, out_ascii_text}
use Rattle.rcell.specs.runs.Accepted.{ShelfHoldsGrids, AreGridsAndScriptAccepted}

-- one or more maps of one region, with distinct names
pub record IsValidShelf (shelf : ShelfValue) : Type 0 where
  pub some : 0 < length shelf.maps
  pub named : length shelf.names ≡ length shelf.maps
  pub distinct : AreDistinctNames shelf.names
  pub one_region : All (λ m. m.region ≡ shelf.region) shelf.maps

-- the maps without their labels
abbrev pub shelf_without_labels : ShelfValue → ShelfValue
shelf_without_labels shelf = record {
  region = shelf.region;
  names = shelf.names;
  maps = map map_without_labels
      shelf.maps;
}

-- a grid whose text is what r.out.ascii writes for the map at index `place`
abbrev pub written_grid : ShelfValue → List ℕ → ℕ → List ℕ → Named
written_grid shelf null_text place name = (name, record { bytes = out_ascii_text shelf place null_text; fails = false })

-- the written grids of the maps from index `place` on, with these names
abbrev pub written_grids_from_place : ShelfValue → List ℕ → ℕ → List (List ℕ) → List Named
written_grids_from_place shelf null_text place [] = []
written_grids_from_place shelf null_text place (name ∷ names) =
    written_grid shelf null_text place name ∷ written_grids_from_place shelf null_text (suc place) names

-- each map of a shelf as r.out.ascii writes it, with its name
abbrev pub written_grids : List ℕ → ShelfValue → List Named
written_grids null_text shelf = written_grids_from_place shelf null_text 0 shelf.names

-- the command prints labels
abbrev pub command_prints_labels : Command → Bool
command_prints_labels (Mapcalc target bound) = false
command_prints_labels (Reclass place target rules) = false
command_prints_labels (Clump place target joining) = false
command_prints_labels (Stats places options) = options.labels
command_prints_labels (OutAscii place null_text) = false

-- no r.stats has the flag `-l`
abbrev pub StatementsPrintNoLabels : List Statement → Type 0
StatementsPrintNoLabels statements = All (λ s. command_prints_labels s.command ≡ false) statements

-- the written texts are grids of the same maps without labels
abbrev pub WrittenMapsAreGrids : Type 0
WrittenMapsAreGrids = (null_text : List ℕ) (shelf : ShelfValue) → IsValidNullText null_text → IsValidShelf shelf
    → All (IsWritableMap null_text) shelf.maps → ShelfHoldsGrids (written_grids null_text shelf)
    (shelf_without_labels shelf)

-- labels affect only outputs that contain labels
abbrev pub LabelsChangeOnlyPrintedLabels : Type 0
LabelsChangeOnlyPrintedLabels = (shelf : ShelfValue) (statements : List Statement) → StatementsPrintNoLabels statements
    → (text : List ℕ) → IsOutputOfStatements shelf statements text
    ↔ IsOutputOfStatements (shelf_without_labels shelf) statements text

-- a script of the second run that prints no labels is accepted over the written grids, and has the output that its
-- statements have over the maps of the first run
abbrev pub WrittenMapsGiveSameOutput : Type 0
WrittenMapsGiveSameOutput = (null_text : List ℕ) (shelf : ShelfValue) → IsValidNullText null_text → IsValidShelf shelf
    → All (IsWritableMap null_text) shelf.maps
    → (script : ComingBytes) (statements : List Statement) → script.fails ≡ false → length script.bytes ≤ 1048576
    → IsScript shelf.names script.bytes statements → StatementsPrintNoLabels statements
    → AreGridsAndScriptAccepted (written_grids null_text shelf) script (shelf_without_labels shelf) statements
    × ((text : List ℕ) → IsOutputOfStatements shelf statements text
    ↔ IsOutputOfStatements (shelf_without_labels shelf) statements text)
