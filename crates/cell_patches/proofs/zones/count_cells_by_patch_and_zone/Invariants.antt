use Rattle.std.proofs.Common.{◌≡◌, length}
use Rattle.cell_patches.specs.parts.Leads.{AreZonesCountedOfEarlierCells}
use Rattle.cell_patches.proofs.zones.count_cells_by_patch_and_zone.Given as goal

abbrev pub ghost-count_row_by_patch_and_zone : goal.ghost-count_row_by_patch_and_zone
ghost-count_row_by_patch_and_zone a = record { numbers = a.numbers.now; zones = a.zones.now }

abbrev pub invariant-loop-row : goal.invariant-loop-row
invariant-loop-row l = record {
  counted : AreZonesCountedOfEarlierCells (record { numbers = l.numbers; zones = l.zones }) l.row 0 l.counts;
  long : length l.counts.leads.items ≡ l.patches;
}
