use Rattle.cell_core_devices.proofs.BlockLemmas.{appends_then}
use Rattle.cell_stats.proofs.printing.write_separator_and_field.Goals as goal

pub returns : goal.returns
returns g c = appends_then c.push.ensures c.push-2.ensures
