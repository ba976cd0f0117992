use Rattle.cell_core_devices.proofs.BlockLemmas.{appends_then}
use Rattle.cell_stats.proofs.printing.write_separator_cell_and_label.Goals as goal

pub returns : goal.returns
returns g c = let both = appends_then c.push.ensures c.write_cell_and_label.ensures in rw c.separator.ensures at both
