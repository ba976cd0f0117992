-- An invariant of reading: statements fit the maps known before them, and the known names are updated after each.
use Rattle.std.specs.Prelude.{ℕ, ◌≡◌, ◌<◌, List, [], ◌∷◌, All, Option, Some, None, length}
use Rattle.cell_core_values.specs.Name.{place_of_name}
use Rattle.rcell_script.specs.KnownMaps.{known_names_after_command}
use Rattle.rcell_script.specs.FittingScripts.{StatementsFitKnownMaps}
use Rattle.rcell_script.specs.declared.line_reading.UnfinishedReclass.{UnfinishedReclass}
use Rattle.rcell_script.specs.declared.line_reading.ScriptReadingState.{ScriptReadingState}
use Rattle.rcell_script.specs.declared.statement.Statement.{Statement}

-- the names known after the statements
abbrev pub known_names_after_statements : List (List ℕ) → List Statement → List (List ℕ)
known_names_after_statements known [] = known
known_names_after_statements known (s ∷ ss) = known_names_after_statements
    (known_names_after_command known s.command) ss

-- the maps of the r.reclass whose rules are being read, if any, are valid
abbrev pub UnfinishedReclassFitsKnownMaps : List (List ℕ) → Option UnfinishedReclass → Type 0
UnfinishedReclassFitsKnownMaps known None = Unit {0}
UnfinishedReclassFitsKnownMaps known (Some block) = (place_of_name block.target known ≡ None)
    × ((block.place < length known) × (0 < block.line))

-- everything read so far fits
pub record ReadingStateFitsKnownMaps (first : List (List ℕ)) (read : ScriptReadingState) : Type 0 where
  pub known : read.known ≡ known_names_after_statements first read.statements
  pub fits : StatementsFitKnownMaps first read.statements
  pub pending : UnfinishedReclassFitsKnownMaps read.known read.pending
  pub numbered : All (λ s. 0 < s.line) read.statements
