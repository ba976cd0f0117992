use Rattle.cell_stats_combinations.proofs.ReadingLemmas.{combinations-are-read}
use Rattle.cell_stats_combinations.proofs.law.texts_are_read_as_combinations.Goals as goal

pub returns : goal.returns
returns c = combinations-are-read
