use Rattle.std.proofs.Common.{◌≡◌, ◌≤◌, ◌-◌, vec_len}
use Rattle.cell_core_devices.specs.Supposed.{EqualBeforeAndAfterReads, content_to_come}
use Rattle.cell_core_devices.specs.declared.source.Asked.TheVariants.{Going}
use Rattle.rcell.specs.ScriptText.{script_text_or_fault}
use Rattle.rcell.proofs.TextLemmas.{text_after}
use Rattle.rcell.proofs.script_bytes.read_script.Given as goal

abbrev pub invariant-pieces : goal.invariant-pieces
invariant-pieces g l = record {
  text : EqualBeforeAndAfterReads script_text_or_fault (content_to_come (g.R.Source.supposed l.fn.source))
      (text_after l.text.items)
      (content_to_come (g.R.Source.supposed l.source));
  short : vec_len l.text ≤ 1048576;
  asked : g.R.Source.asked l.fn.source ≡ Going → g.R.Source.asked l.source ≡ Going;
}

abbrev pub decreases-pieces : goal.decreases-pieces
decreases-pieces g l = 1048576 - vec_len l.text
