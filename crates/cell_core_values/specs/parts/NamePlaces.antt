-- The index of each name, in an ordered map from the bytes of the name.
use Rattle.std.specs.Prelude.{ℕ, ◌≡◌, List}
use Rattle.std.specs.Ordering.{is_eq, nat_cmp}
use Rattle.std.specs.Cmp.Lexicographic.{slice_cmp}
use Rattle.std.specs.Map.{lookup}
use Rattle.cell_core_values.specs.Name.{place_of_name}

-- each name is found at its index in the list, and no other text is found
abbrev pub ArePlacesOfNames : {K : Type 0} → (K → List ℕ) → List (List ℕ) → List (K × ℕ) → Type 0
ArePlacesOfNames bytes names entries = (text : List ℕ) → lookup
    (λ key. is_eq (slice_cmp nat_cmp text (bytes key))) entries ≡ place_of_name text names
