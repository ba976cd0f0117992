-- Statements that fit the maps known before them.
use Rattle.std.specs.Prelude.{ℕ, List, [], ◌∷◌}
use Rattle.rcell_script.specs.FittingCommands.{CommandFitsKnownMaps}
use Rattle.rcell_script.specs.KnownMaps.{known_names_after_command}
use Rattle.rcell_script.specs.declared.statement.Statement.{Statement}

-- each command fits the maps that are known before it
abbrev pub StatementsFitKnownMaps : List (List ℕ) → List Statement → Type 0
StatementsFitKnownMaps known [] = Unit {0}
StatementsFitKnownMaps known (s ∷ ss) = CommandFitsKnownMaps known s.command
    × StatementsFitKnownMaps (known_names_after_command known s.command) ss
