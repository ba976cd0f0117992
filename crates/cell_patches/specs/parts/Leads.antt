-- Properties of the counts and leads of zones while the cells of two maps are counted.
use Rattle.std.specs.Prelude.{ℕ, ℤ, pos, ◌&&◌, ◌+◌, ◌<◌, ◌≤◌, ◌≤ℤ◌, ◌<ℤ◌, ◌≡◌, ◌≢◌, ◌⊎◌, Bool, List, length}
use Rattle.std.specs.Prelude.{Some, None, unwrap_or, slice_index_or, if◌then◌else◌}
use Rattle.std.specs.Ordering.{int_eq}
use Rattle.std.specs.HashMap.{HashMap, get}
use Rattle.cell_core_values.specs.Cell.{cell_eq}
use Rattle.cell_core.specs.Grid.{Grid, CellValue, cell_at}
use Rattle.cell_patches.specs.declared.zone_counts.LeadingZone.{LeadingZone}
use Rattle.cell_patches.specs.declared.zone_counts.CellCountsByPatchAndZone.{CellCountsByPatchAndZone}
use Rattle.cell_patches.specs.Patches.{sum_over_cells}
use Rattle.cell_patches.specs.parts.Passes.{sum_over_earlier_cells}

-- two pairs of a number and a zone are equal
abbrev pub same_pair : ℤ × ℤ → ℤ × ℤ → Bool
same_pair x y = int_eq x.0 y.0 && int_eq x.1 y.1

-- 1 if the two cells are this number and this zone, otherwise 0
abbrev pub one_if_cells_are_patch_and_zone : CellValue → CellValue → ℤ → ℤ → ℕ
one_if_cells_are_patch_and_zone number zone v z = if cell_eq number (Some v) && cell_eq zone (Some z) then 1 else 0

-- 1 if the cell has this number and this zone, otherwise 0
abbrev pub one_if_cell_in_patch_and_zone : Grid → Grid → ℤ → ℤ → ℕ → ℕ → ℕ
one_if_cell_in_patch_and_zone numbers zones v z r c = one_if_cells_are_patch_and_zone (cell_at numbers r c)
    (cell_at zones r c) v z

-- the count of a pair in a table
abbrev pub pair_count_in_table : {S : Type 0} → HashMap (ℤ × ℤ) ℕ S → ℤ × ℤ → ℕ
pair_count_in_table table pair = unwrap_or (get same_pair table pair) 0

-- the count of a pair in the table, and its count including the current run
abbrev pub pair_count_without_current_run : CellCountsByPatchAndZone → ℤ → ℤ → ℕ
pair_count_without_current_run counts v z = pair_count_in_table counts.table (v, z)

abbrev pub pair_count_with_current_run : CellCountsByPatchAndZone → ℤ → ℤ → ℕ
pair_count_with_current_run counts v z = pair_count_without_current_run counts v z +
    (if same_pair counts.pair (v, z) then counts.run else 0)

-- the state before any zone leads
abbrev pub leading_zone_before_any_cell : LeadingZone
leading_zone_before_any_cell = record { zone = None; cells = 0 }

-- the leading zone, given the number of cells in each zone
pub record IsLeadingZoneByCellCounts (cells : ℤ → ℕ) (lead : LeadingZone) : Type 0 where
  pub none : lead.zone ≡ None → lead.cells ≡ 0
  pub some : (zone : ℤ) → lead.zone ≡ Some zone → (cells zone ≡ lead.cells) × (0 < lead.cells)
  pub most : (zone : ℤ) → cells zone ≤ lead.cells
  pub first : (zone other : ℤ) → lead.zone ≡ Some zone → cells other ≡ lead.cells → zone ≤ℤ other

-- the leading zone stays ahead of another: it has more cells, or as many and a number that is not larger; otherwise it
-- is overtaken
abbrev pub LeadingZoneStaysAhead : ℕ → ℤ → ℤ → ℕ → Type 0
LeadingZoneStaysAhead cells first zone many = (many ≤ cells) × (many ≡ cells → first ≤ℤ zone)

abbrev pub LeadingZoneIsOvertaken : ℕ → ℤ → ℤ → ℕ → Type 0
LeadingZoneIsOvertaken cells first zone many = (cells < many) ⊎ ((many ≡ cells) × (zone <ℤ first))

-- the leading zone after a zone has gained cells
abbrev pub IsLeadingZoneAfterGain : LeadingZone → ℤ → ℕ → LeadingZone → Type 0
IsLeadingZoneAfterGain old zone many new = (before after : ℤ → ℕ) → IsLeadingZoneByCellCounts before old
    → after zone ≡ many
    → before zone ≤ many
    → ((other : ℤ) → other ≢ zone → after other ≡ before other) → IsLeadingZoneByCellCounts after new

-- the lead of the pair's patch was updated, and no other lead has changed
abbrev pub UpdatesLeadingZoneOfPair : List LeadingZone → ℤ × ℤ → ℕ → List LeadingZone → Type 0
UpdatesLeadingZoneOfPair old pair many new = (length new ≡ length old) × ((k : ℕ) → k < length old →
    (pair.0 ≡ pos (k + 1) → IsLeadingZoneAfterGain (slice_index_or old k leading_zone_before_any_cell) pair.1 many
    (slice_index_or new k leading_zone_before_any_cell))
    × (pair.0 ≢ pos (k + 1) → slice_index_or new k leading_zone_before_any_cell
    ≡ slice_index_or old k leading_zone_before_any_cell))

-- each patch's lead is the leading zone according to the table
abbrev pub AreLeadingZonesOfPatches : CellCountsByPatchAndZone → Type 0
AreLeadingZonesOfPatches counts = (k : ℕ) → k < length counts.leads.items
    → IsLeadingZoneByCellCounts (pair_count_without_current_run counts (pos (k + 1)))
    (slice_index_or counts.leads.items k leading_zone_before_any_cell)

-- counts cannot overflow if this many cells are added
abbrev pub PairCountsHaveRoomFor : ℕ → CellCountsByPatchAndZone → Type 0
PairCountsHaveRoomFor many counts = (v z : ℤ) → pair_count_with_current_run counts v z + many < 18446744073709551616

-- a map of patch numbers and a map of zones
pub record PatchAndZoneMaps : Type 0 where
  pub numbers : Grid
  pub zones : Grid

-- the cells before row r, column c were counted
pub record AreZonesCountedOfEarlierCells (maps : PatchAndZoneMaps) (r c : ℕ)
    (counts : CellCountsByPatchAndZone) : Type 0 where
  pub each : (v z : ℤ) → pair_count_with_current_run counts v z
      ≡ sum_over_earlier_cells maps.numbers.region.cols (one_if_cell_in_patch_and_zone maps.numbers maps.zones v z) r c
  pub leads : AreLeadingZonesOfPatches counts

-- all cells were counted
pub record AreZonesCountedOfAllCells (maps : PatchAndZoneMaps) (counts : CellCountsByPatchAndZone) : Type 0 where
  pub each : (v z : ℤ) → pair_count_without_current_run counts v z
      ≡ sum_over_cells maps.numbers.region (one_if_cell_in_patch_and_zone maps.numbers maps.zones v z)
  pub leads : AreLeadingZonesOfPatches counts
