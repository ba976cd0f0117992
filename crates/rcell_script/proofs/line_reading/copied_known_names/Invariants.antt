use Rattle.std.proofs.Common.{◌≡◌, take}
use Rattle.rcell_script.proofs.line_reading.copied_known_names.Given as goal

abbrev pub invariant-loop-i : goal.invariant-loop-i
invariant-loop-i l = l.copy ≡ take l.i l.names
