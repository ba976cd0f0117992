use Rattle.cell_core_devices.proofs.BlockLemmas.{appends_then}
use Rattle.cell_stats.proofs.printing.write_cell_line.Goals as goal

pub returns : goal.returns
returns g c = appends_then c.write_combination.ensures c.push.ensures
