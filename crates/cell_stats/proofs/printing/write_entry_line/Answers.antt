use Rattle.cell_core_devices.proofs.BlockLemmas.{appends_then}
use Rattle.cell_stats.proofs.LineLemmas.{pair-parts}
use Rattle.cell_stats.proofs.printing.write_entry_line.Goals as goal

pub returns : goal.returns
returns g c =
    rw (← pair-parts c.args.format.now c.args.shelf.now.maps c.args.picks.now c.args.cells.now c.args.count c.requires.some c.requires.width)
    (appends_then (appends_then c.write_combination.ensures c.write_separator_and_count.ensures) c.push.ensures)
