use Rattle.std.proofs.Common.{◌≡◌, rules}
use Rattle.cell_patches.specs.parts.Leads.{pair_count_in_table}
use Rattle.cell_patches.proofs.LeadLemmas.{cells_more}
use Rattle.cell_patches.proofs.zone_counts.add_cells_to_pair_count.Goals as goal

pub returns-clause-more : goal.returns-clause-more
returns-clause-more c = λ q.
    let was : c.unwrap_or.result ≡ pair_count_in_table c.args.table.now c.args.pair = search rules in
    cells_more c.args.table.now c.insert.new.self c.args.pair q c.unwrap_or.result c.args.cells was
    (c.in_ok-insert.ensures.updates.0 q)
