use Rattle.cell_join_tiles.proofs.BorderLemmas.{clump-labels-are-labels}
use Rattle.cell_join_tiles.proofs.law.clump_labels_fit_joining_by_pairs.Goals as goal

pub returns : goal.returns
returns c = clump-labels-are-labels
