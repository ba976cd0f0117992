use Rattle.cell_ascii_law.proofs.GridLawLemmas.{reading_agrees}
use Rattle.cell_ascii_law.proofs.law.reading_returns_denoted_map.Goals as goal

pub returns : goal.returns
returns c = reading_agrees
