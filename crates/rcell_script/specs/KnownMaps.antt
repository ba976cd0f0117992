-- The maps that are known after a command.
use Rattle.std.specs.Prelude.{ℕ, List, [], ◌∷◌, ◌++◌, Option, Some, None}
use Rattle.rcell_script.specs.declared.command.Command.{Command}
use Rattle.rcell_script.specs.declared.command.Command.TheVariants.{Mapcalc, Reclass, Clump, Stats, OutAscii}

-- the name of the map that a command makes, if it makes one
abbrev pub made_map_name : Command → Option (List ℕ)
made_map_name (Mapcalc target bound) = Some target
made_map_name (Reclass place target rules) = Some target
made_map_name (Clump place target joining) = Some target
made_map_name (Stats places options) = None
made_map_name (OutAscii place null_text) = None

-- adds the name of the new map, if there is one
abbrev pub names_with_made_map_name : List (List ℕ) → Option (List ℕ) → List (List ℕ)
names_with_made_map_name known None = known
names_with_made_map_name known (Some target) = known ++ target ∷ []

-- a command's new map is known after the command
abbrev pub known_names_after_command : List (List ℕ) → Command → List (List ℕ)
known_names_after_command known command = names_with_made_map_name known (made_map_name command)
