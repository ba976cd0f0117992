use Rattle.std.proofs.Common.{sym}
use Rattle.rcell_script.proofs.PlaceLemmas.{place_of-before, take-slice_get}
use Rattle.rcell_script.proofs.line_reading.copied_known_names.Goals as goal

pub push-requires : goal.push-requires
push-requires c = rw (c.loop-i.invariant, c.in_ok-name.ensures) (place_of-before _ _ _ c.name.ensures.place)

pub loop-i-preserved : goal.loop-i-preserved
loop-i-preserved c = rw (c.in_ok-push.ensures.ok, c.loop-i.invariant, c.in_ok-name.ensures) (sym (take-slice_get _ _ _ c.name.ensures.value))
