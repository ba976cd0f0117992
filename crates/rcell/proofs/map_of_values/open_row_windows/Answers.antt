use Rattle.std.proofs.Common.{◌∷◌, [], length, ap, ◌∙◌, arith, length-append}
use Rattle.rcell.proofs.WindowLemmas.{set_more}
use Rattle.rcell.specs.parts.WindowsSet.{maps_at_places}
use Rattle.rcell.proofs.map_of_values.open_row_windows.Goals as goal

pub loop-i-preserved : goal.loop-i-preserved
loop-i-preserved c =
    let w = c.in_ok-new.field-0 in
    let reach = c.in_ok-new.ensures.reach in
    record {
      count = let e = ap (λ l. length l) c.in_ok-push.ensures.items in omega
          (arith, e, length-append c.loop-i.windows.items (w ∷ []), c.loop-i.invariant.count);
      set = rw c.in_ok-push.ensures.items
          (set_more c.args.bound.now c.loop-i.windows.items
          (maps_at_places c.args.places.now c.args.maps.now) c.loop-i.i w c.map_at_listed_place.result.now
          c.loop-i.invariant.count c.loop-i.invariant.set c.map_at_listed_place.ensures.value c.in_ok-new.ensures.centre
          (reach.0 ∙ c.reach-up.ensures.up, reach.1 ∙ c.reach-up.ensures.down) c.in_ok-new.ensures.window);
    }
