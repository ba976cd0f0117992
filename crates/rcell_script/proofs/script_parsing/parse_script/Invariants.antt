use Rattle.rcell_script.specs.Lines.{script_lines}
use Rattle.rcell_script.specs.ScriptsRead.{IsScriptReading, state_before_first_line}
use Rattle.rcell_script.specs.parts.Sound.{ReadingStateFitsKnownMaps}
use Rattle.rcell_script.proofs.ReadingLemmas.{Stands}
use Rattle.rcell_script.proofs.script_parsing.parse_script.Given as goal

abbrev pub invariant-loop-i : goal.invariant-loop-i
invariant-loop-i l = record {
  stands : Stands (IsScriptReading 1 (state_before_first_line l.known) (script_lines l.text)) l.read l.line-items l.i;
  sound : ReadingStateFitsKnownMaps l.known l.read;
}
