use Rattle.std.proofs.Common.{◌≡◌, length}
use Rattle.cell_patches.specs.parts.Leads.{AreZonesCountedOfEarlierCells}
use Rattle.cell_patches.proofs.zones.add_row_of_cells_to_patches.Given as goal

abbrev pub invariant-loop-col : goal.invariant-loop-col
invariant-loop-col g l = record {
  counted : AreZonesCountedOfEarlierCells g.maps l.row l.col l.counts;
  long : length l.counts.leads.items ≡ length l.initial.counts.leads.items;
}
