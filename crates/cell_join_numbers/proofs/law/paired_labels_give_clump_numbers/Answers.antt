use Rattle.cell_join_numbers.proofs.SparseLemmas.{sparse-labels-number}
use Rattle.cell_join_numbers.proofs.law.paired_labels_give_clump_numbers.Goals as goal

pub returns : goal.returns
returns c = sparse-labels-number
