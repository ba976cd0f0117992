-- The grids that a request opened.
use Rattle.std.specs.Prelude.{ℕ, ◌≡◌, List, All, Option, map}
use Rattle.std.specs.List.{AllZip}
use Rattle.cell_core_devices.specs.Device.{ComingBytes}
use Rattle.cell_core_devices.specs.Supposed.{SupposedContent}
use Rattle.cell_core_devices.specs.declared.source.Asked.{Asked}
use Rattle.cell_core_devices.specs.declared.source.Asked.TheVariants.{Going}
use Rattle.rcell_command.specs.Processes.{SourceGivesContentsOfFile}

-- the sources of grids with these names and paths, in order, none of which has been read yet
pub record AreGridSourcesOpened {F : Type 0} (files : List ℕ → Option ComingBytes) (coming : F
    → Option ComingBytes) (asked : F → Asked)
    (names paths : List (List ℕ)) (grids : List (List ℕ × F)) : Type 0 where
  pub named : map (λ grid. grid.0) grids ≡ names
  pub fresh : All (λ grid. asked grid.1 ≡ Going) grids
  pub gives : AllZip (λ path grid. SourceGivesContentsOfFile files coming path grid.1) paths grids

-- each source returns the content of the file at its path, as far as this is known or supposed
abbrev pub SourcesHoldFileContents : {F : Type 0} → (List ℕ → SupposedContent) → (F → SupposedContent) → List (List ℕ)
    → List (List ℕ × F) → Type 0
SourcesHoldFileContents file supposed paths grids = AllZip (λ path grid. supposed grid.1 ≡ file path) paths grids
