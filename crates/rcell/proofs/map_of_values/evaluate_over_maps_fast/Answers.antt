use Rattle.rcell.specs.parts.WindowsSet.{maps_at_places}
use Rattle.rcell.proofs.map_of_values.evaluate_over_maps_fast.Goals as goal

pub returns-in-Some : goal.returns-in-Some
returns-in-Some c =
    let maps = maps_at_places c.args.places.now c.args.maps.now in
    let region = c.map_at_listed_place.ensures.region c.args.region c.requires.regions in
    let values = (rw c.in-Some.is at c.in_ok-made.ensures) maps c.map_at_listed_place.ensures.value in
    rw region at values
