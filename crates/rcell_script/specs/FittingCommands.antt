-- Commands that fit the maps known before them.
use Rattle.std.specs.Prelude.{ℕ, ◌≡◌, ◌≤◌, ◌<◌, List, length, All, IfSome, None}
use Rattle.cell_calc_language.specs.Reach.{map_place_limit_of_formula}
use Rattle.cell_core_values.specs.Name.{place_of_name}
use Rattle.rcell_script.specs.declared.command.Command.{Command}
use Rattle.rcell_script.specs.declared.command.Command.TheVariants.{Mapcalc, Reclass, Clump, Stats, OutAscii}
use Rattle.rcell_script.specs.declared.heads.ScriptLineMeaning.{ScriptLineMeaning}
use Rattle.rcell_script.specs.declared.heads.ScriptLineMeaning.TheVariants.{Skipped, Whole, Opened}

-- the command reads only known maps, and the map that it makes is new
abbrev pub CommandFitsKnownMaps : List (List ℕ) → Command → Type 0
CommandFitsKnownMaps known (Mapcalc target bound) = (map_place_limit_of_formula bound ≤ length known)
    × (place_of_name target known ≡ None)
CommandFitsKnownMaps known (Reclass place target rules) = (place < length known) × (place_of_name target known ≡ None)
CommandFitsKnownMaps known (Clump place target joining) = (place < length known) × (place_of_name target known ≡ None)
CommandFitsKnownMaps known (Stats places options) =
    All (λ place. place < length known) places × ((1 ≤ length places) × ((length places ≤ 16) × IfSome options.after (λ combo. length combo ≡ length places)))
CommandFitsKnownMaps known (OutAscii place null_text) = place < length known

-- the line reads only known maps, and the map that it makes is new
abbrev pub LineFitsKnownMaps : List (List ℕ) → ScriptLineMeaning → Type 0
LineFitsKnownMaps known Skipped = Unit {0}
LineFitsKnownMaps known (Whole command) = CommandFitsKnownMaps known command
LineFitsKnownMaps known (Opened place target) = (place < length known) × (place_of_name target known ≡ None)
