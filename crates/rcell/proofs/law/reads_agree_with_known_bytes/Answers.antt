use Rattle.rcell.proofs.KnownLemmas.{known_agree}
use Rattle.rcell.proofs.law.reads_agree_with_known_bytes.Goals as goal

pub returns : goal.returns
returns g c = known_agree g.R.Source.coming g.R.Source.supposed g.met.R.Source.known g.met.R.Source.steady
