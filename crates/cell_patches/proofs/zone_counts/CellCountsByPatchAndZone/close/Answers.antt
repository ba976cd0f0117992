use Rattle.std.proofs.Common.{refl, arith}
use Rattle.cell_patches.specs.parts.Leads.{pair_count_in_table}
use Rattle.cell_patches.proofs.LeadLemmas.{leads_raised, same_from}
use Rattle.cell_patches.proofs.zone_counts.CellCountsByPatchAndZone.close.Goals as goal

pub add_cells_to_pair_count-requires : goal.add_cells_to_pair_count-requires
add_cells_to_pair_count-requires c =
    let pair = c.args.self.now.pair in
    let room = rw (same_from pair pair refl refl) at (c.requires.room pair.0 pair.1) in
    omega arith

pub returns-clause-leads : goal.returns-clause-leads
returns-clause-leads c =
    leads_raised (λ v z. pair_count_in_table c.args.self.now.table (v, z))
    (λ v z. pair_count_in_table c.add_cells_to_pair_count.new.table (v, z))
    c.args.self.now.pair c.args.self.now.run c.in_ok-cells.cells c.args.self.now.leads.items
    c.update_leading_zone_of_pair.new.leads.items
    (λ v z. c.in_ok-cells.ensures.more (v, z)) c.in_ok-cells.ensures.total c.update_leading_zone_of_pair.ensures
    c.requires.leads
