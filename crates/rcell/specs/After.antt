-- The shelf after each statement (profile).
use Rattle.std.specs.Prelude.{◌≡◌}
use Rattle.cell_core.specs.Shelf.{ShelfValue}
use Rattle.rcell.specs.Making.{IsShelfAfterMapcalc, IsShelfAfterReclass, IsShelfAfterClump}
use Rattle.rcell_script.specs.declared.command.Command.{Command}
use Rattle.rcell_script.specs.declared.command.Command.TheVariants.{Mapcalc, Reclass, Clump, Stats, OutAscii}

-- the shelf after a command: if the command makes a map, the map is added at the end with its name; otherwise the shelf
-- does not change
abbrev pub IsShelfAfterCommand : ShelfValue → Command → ShelfValue → Type 0
IsShelfAfterCommand shelf (Mapcalc target bound) after = IsShelfAfterMapcalc shelf target bound after
IsShelfAfterCommand shelf (Reclass place target rules) after = IsShelfAfterReclass shelf place target rules after
IsShelfAfterCommand shelf (Clump place target joining) after = IsShelfAfterClump shelf place target joining after
IsShelfAfterCommand shelf (Stats places options) after = after ≡ shelf
IsShelfAfterCommand shelf (OutAscii place null_text) after = after ≡ shelf
