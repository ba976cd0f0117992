-- The main zone of each patch, given a second map whose categories are zones.
use Rattle.std.specs.Prelude.{ℕ, ℤ, ◌&&◌, ◌+◌, ◌<◌, ◌≤◌, ◌≤ℤ◌, ◌≡◌, List, Option, Some, None, slice_get}
use Rattle.cell_core_values.specs.Cell.{cell_eq}
use Rattle.cell_core.specs.Grid.{Grid, cell_at}
use Rattle.cell_patches.specs.Patches.{is_in_patch, count_of_cells_that_pass}

-- the number of a patch's cells in a zone
abbrev pub patch_cell_count_in_zone : Grid → Grid → ℕ → ℤ → ℕ
patch_cell_count_in_zone numbers zones n zone =
    count_of_cells_that_pass numbers.region (λ r c. is_in_patch numbers n r c
    && cell_eq (cell_at zones r c) (Some zone))

-- the zone contains cells of the patch, no zone contains more of them, and no smaller zone contains as many
pub record IsLargestZoneOfPatch (numbers zones : Grid) (n : ℕ) (zone : ℤ) : Type 0 where
  pub some : 0 < patch_cell_count_in_zone numbers zones n zone
  pub most : (other : ℤ) → patch_cell_count_in_zone numbers zones n other ≤ patch_cell_count_in_zone numbers zones n
      zone
  pub first : (other : ℤ) → patch_cell_count_in_zone numbers zones n other
      ≡ patch_cell_count_in_zone numbers zones n zone → zone ≤ℤ other

-- the main zone of a patch, or `None` if no zone contains cells of it
abbrev pub IsMainZone : Grid → Grid → ℕ → Option ℤ → Type 0
IsMainZone numbers zones n None = (zone : ℤ) → patch_cell_count_in_zone numbers zones n zone ≡ 0
IsMainZone numbers zones n (Some zone) = IsLargestZoneOfPatch numbers zones n zone

-- the main zones of patches, in the order of their numbers, which start at 1
abbrev pub AreMainZones : Grid → Grid → List (Option ℤ) → Type 0
AreMainZones numbers zones main =
    (k : ℕ) (zone : Option ℤ) → slice_get main k ≡ Some zone → IsMainZone numbers zones (k + 1) zone
