use Rattle.std.proofs.Common.{◌≡◌, ◌≤◌, length}
use Rattle.rcell_script.specs.RMapcalc.{rest_after_first_word}
use Rattle.rcell_script.proofs.r_mapcalc.text_after_first_word.Given as goal

abbrev pub invariant-loop-rest : goal.invariant-loop-rest
invariant-loop-rest l = record {
  same : rest_after_first_word l.rest ≡ rest_after_first_word l.text;
  shorter : length l.rest ≤ length l.text;
}

abbrev pub decreases-loop-rest : goal.decreases-loop-rest
decreases-loop-rest l = length l.rest
