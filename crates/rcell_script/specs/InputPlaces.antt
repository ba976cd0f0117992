-- Looks up several names.
use Rattle.std.specs.Prelude.{ℕ, List, [], ◌∷◌, Option, Some}
use Rattle.std.specs.Option.{option_map, option_and_then}
use Rattle.cell_core_values.specs.Name.{place_of_name}

-- the indices of names among the known names, if all are known
abbrev pub places_of_map_names : List (List ℕ) → List (List ℕ) → Option (List ℕ)
places_of_map_names known [] = Some []
places_of_map_names known (name ∷ names) = option_and_then (λ place. option_map (λ places. place ∷ places) (places_of_map_names known names)) (place_of_name name known)
