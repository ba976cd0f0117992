use Rattle.rcell_law.proofs.AlikeLemmas.{labels_change_only_printed_labels}
use Rattle.rcell_law.proofs.law.labels_change_only_printed_labels.Goals as goal

pub returns : goal.returns
returns c = labels_change_only_printed_labels
