-- Names of maps, looked up by index.
use Rattle.std.specs.Prelude.{ℕ, List, [], slice_get, unwrap_or}

-- the name of the map at index `place`, or an empty name if there is none
abbrev pub name_of_map_at_place : List (List ℕ) → ℕ → List ℕ
name_of_map_at_place names place = unwrap_or (slice_get names place) []
