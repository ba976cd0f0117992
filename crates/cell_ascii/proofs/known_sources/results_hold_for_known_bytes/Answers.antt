use Rattle.cell_ascii.proofs.KnownLemmas.{known_read}
use Rattle.cell_ascii.proofs.known_sources.results_hold_for_known_bytes.Goals as goal

pub returns : goal.returns
returns g c = known_read g.R.Source.coming g.R.Source.supposed g.met.R.Source.known g.met.R.Source.steady
