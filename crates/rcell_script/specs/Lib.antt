-- Scripts: their lines, which texts are scripts, how scripts are read, and their errors. One line of a script: the
-- flags and keys of each command, the options and maps that its words specify, which lines spell a command, and the
-- errors of a line.
pub mod NullText
pub mod Options
pub mod OptionReading
pub mod InputPlaces
pub mod Maps
pub mod Skipped
pub mod RMapcalc
pub mod RReclass
pub mod RClump
pub mod RStats
pub mod ROutAscii
pub mod CommandSpelling
pub mod FittingCommands
pub mod ScriptFaults
pub mod ScriptTexts
pub mod Commands
pub mod Lines
pub mod ReclassRules
pub mod KnownMaps
pub mod Scripts
pub mod FittingScripts
pub mod ScriptsRead
pub mod ReadScripts
pub mod ScriptLaw
pub mod parts
