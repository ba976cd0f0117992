use Rattle.std.proofs.Common.{◌≡◌, ◌<◌, take, length, Some, All}
use Rattle.rcell_script.specs.InputPlaces.{places_of_map_names}
use Rattle.rcell_script.proofs.maps.known_places_of_map_names.Given as goal

abbrev pub invariant-loop-name : goal.invariant-loop-name
invariant-loop-name l = record {
  places : places_of_map_names l.known (take l.name-index l.names) ≡ Some l.places.items;
  count : length l.places.items ≡ l.name-index;
  within : All (λ place. place < length l.known) l.places.items;
}
