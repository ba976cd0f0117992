-- Which line spells which command, as described in the GRASS manual.
use Rattle.std.specs.Prelude.{ℕ, List}
use Rattle.rcell_script.specs.RClump.{SpellsClumpCommand}
use Rattle.rcell_script.specs.RMapcalc.{SpellsMapcalcCommand}
use Rattle.rcell_script.specs.ROutAscii.{SpellsOutAsciiCommand}
use Rattle.rcell_script.specs.RStats.{SpellsStatsCommand}
use Rattle.rcell_script.specs.declared.command.Command.{Command}
use Rattle.rcell_script.specs.declared.command.Command.TheVariants.{Mapcalc, Reclass, Clump, Stats, OutAscii}

-- the line spells the command, which needs no further lines
abbrev pub SpellsCommand : List (List ℕ) → List ℕ → Command → Type 0
SpellsCommand known line (Mapcalc target bound) = SpellsMapcalcCommand known line target bound
SpellsCommand known line (Reclass place target rules) = ⊥
SpellsCommand known line (Clump place target joining) = SpellsClumpCommand known line place target joining
SpellsCommand known line (Stats places options) = SpellsStatsCommand known line places options
SpellsCommand known line (OutAscii place null_text) = SpellsOutAsciiCommand known line place null_text
