use Rattle.std.proofs.Common.{◌<◌, length, ◌∙◌, arith}
use Rattle.std.specs.Prelude.{All}
use Rattle.cell_calc_language.specs.Applied.{grid_position}
use Rattle.rcell.specs.parts.WindowsSet.{maps_at_places}
use Rattle.rcell.proofs.WindowLemmas.{picked_at}
use Rattle.rcell.proofs.map_of_values.evaluate.Goals as goal

pub returns : goal.returns
returns c = record {
  region = c.in_ok-map.ensures.region ∙ c.region-region.ensures.value;
  filled = c.region-map_region.ensures.filled;
  labels = c.in_ok-map.ensures.labels;
  cells = λ r k lr lk.
      let places = c.in_ok-compact.places.items in
      let maps = c.args.shelf.now.maps in
      let within : All (λ place. place < length maps) places = λ i d lt. let below = c.in_ok-compact.ensures.within i d lt in omega (arith, below, c.requires) in
      let same = c.in_ok-compact.ensures.value maps (maps_at_places places maps) (picked_at places maps within) (grid_position c.args.shelf.now.region r k) in
      let over = (rw (c.maps-maps.ensures.value, c.region-region.ensures.value) at c.in_ok-map.ensures).cells r k lr lk in
      let slice = c.as_slice.ensures.value in
      let view = c.compact.view_is in
      cc;
}
