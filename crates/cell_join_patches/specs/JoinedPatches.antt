-- The patches of a full map, joined from their parts in tiles.
use Rattle.std.specs.BTreeMap.{is_at}
use Rattle.std.specs.List.{filter, list_all}
use Rattle.std.specs.List.Sorted.{IsStrictlySortedBy}
use Rattle.std.specs.Map.{keys_of, lookup}
use Rattle.std.specs.Ordering.{int_eq, nat_cmp}
use Rattle.std.specs.Prelude.{ℕ, ℤ, ⊤, ◌≡◌, ◌-◌, ◌^◌, ◌==◌, ◌&&◌, ◌||◌, nat_lt, not, Bool, true, List, [], ◌∷◌, ◌++◌}
use Rattle.std.specs.Prelude.{All, Contains, Option, Some, None, length, map, slice_get, sum_by, if◌then◌else◌}
use Rattle.cell_patches.specs.declared.patch.Patch.{Patch}
use Rattle.cell_patches.specs.Patches.{IsSmallestWithProperty, IsLargestWithProperty}
use Rattle.cell_join_patches.specs.declared.part.PatchOfTile.{PatchOfTile}
use Rattle.cell_join_patches.specs.declared.patch_joiner.PartFault.{PartFault}
use Rattle.cell_join_patches.specs.declared.patch_joiner.PartFault.TheVariants.{OtherClass, TooManyCells}
use Rattle.cell_join_patches.specs.declared.patch_joiner.PartStop.{PartStop}
use Rattle.cell_join_patches.specs.declared.patch_joiner.PartStop.TheVariants as stops

-- a patch is of a later tile, or a later patch of the same tile
abbrev pub patch_comes_after : PatchOfTile → (tile patch : ℕ) → Bool
patch_comes_after previous tile patch =
    nat_lt previous.tile tile || (previous.tile == tile && nat_lt previous.number patch)

-- a patch comes after the previous part, if any
abbrev pub patch_comes_after_any : Option PatchOfTile → (tile patch : ℕ) → Bool
patch_comes_after_any None tile patch = true
patch_comes_after_any (Some previous) tile patch = patch_comes_after previous tile patch

-- a patch comes after these parts
abbrev pub patch_can_be_added : List PatchOfTile → (tile patch : ℕ) → Bool
patch_can_be_added parts tile patch = patch_comes_after_any (slice_get parts (length parts - 1)) tile patch

-- the measures of the parts of patch n of the full map
abbrev pub parts_of_patch : ℕ → List PatchOfTile → List Patch
parts_of_patch n parts = map (λ part. part.patch) (filter (λ part. part.full_map_number == n) parts)

-- all parts have this class
abbrev pub parts_have_class : ℤ → List Patch → Bool
parts_have_class class parts = list_all (λ part. int_eq part.class class) parts

-- each measure adds up to less than 2^64
abbrev pub sums_of_parts_are_below_limit : List Patch → Bool
sums_of_parts_are_below_limit parts =
    nat_lt (sum_by (λ part. part.cells) parts) (2 ^ 64)
    && (nat_lt (sum_by (λ part. part.ends) parts) (2 ^ 64)
    && (nat_lt (sum_by (λ part. part.flanks) parts) (2 ^ 64) && nat_lt (sum_by (λ part. part.core) parts) (2 ^ 64)))

-- why measures cannot be a further part of a patch with these parts, if there is a reason
abbrev pub fault_of_measures : List Patch → Patch → Option PartFault
fault_of_measures parts patch =
    if not (parts_have_class patch.class parts) then Some OtherClass
    else (if sums_of_parts_are_below_limit (parts ++ patch ∷ []) then None else Some TooManyCells)

-- why a part cannot be added to these parts, if there is a reason
abbrev pub fault_of_part : List PatchOfTile → PatchOfTile → Option PartFault
fault_of_part parts part = fault_of_measures (parts_of_patch part.full_map_number parts) part.patch

-- why adding a part stops: memory ran out, or the part cannot be added
abbrev pub IsStopOfPart : List PatchOfTile → PatchOfTile → PartStop → Type 0
IsStopOfPart parts part stops.Memory = ⊤
IsStopOfPart parts part (stops.Fault fault) = fault_of_part parts part ≡ Some fault

-- the measures of a patch with these parts: their class, the sums of cells, ends, flanks and core, the smallest first
-- row and column, and the largest last row and column
pub record AreMeasuresOfParts (parts : List Patch) (patch : Patch) : Type 0 where
  pub class : All (λ part. part.class ≡ patch.class) parts
  pub cells : patch.cells ≡ sum_by (λ part. part.cells) parts
  pub ends : patch.ends ≡ sum_by (λ part. part.ends) parts
  pub flanks : patch.flanks ≡ sum_by (λ part. part.flanks) parts
  pub core : patch.core ≡ sum_by (λ part. part.core) parts
  pub first_row : IsSmallestWithProperty (Contains (map (λ part. part.first_row) parts)) patch.first_row
  pub last_row : IsLargestWithProperty (Contains (map (λ part. part.last_row) parts)) patch.last_row
  pub first_col : IsSmallestWithProperty (Contains (map (λ part. part.first_col) parts)) patch.first_col
  pub last_col : IsLargestWithProperty (Contains (map (λ part. part.last_col) parts)) patch.last_col

-- the patch that has these parts, or `None` if there are no parts
abbrev pub IsPatchOfParts : List Patch → Option Patch → Type 0
IsPatchOfParts parts None = parts ≡ []
IsPatchOfParts parts (Some patch) = AreMeasuresOfParts parts patch

-- the patches with their numbers in the full map, in ascending order: a number is in the list if and only if a part has
-- it, and then with the measures of its parts
pub record AreJoinedPatches (parts : List PatchOfTile) (patches : List (ℕ × Patch)) : Type 0 where
  pub ascending : IsStrictlySortedBy nat_cmp (keys_of patches)
  pub each : (n : ℕ) → IsPatchOfParts (parts_of_patch n parts) (lookup (is_at (nat_cmp n)) patches)
