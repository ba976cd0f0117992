use Rattle.std.proofs.Common.{[], All}
use Rattle.rcell_pipe_request.specs.Heads.{IsGoodLabel, labels_as_values, next_label_reading}
use Rattle.rcell_pipe_request.proofs.StepLemmas.{StepsLeadOn}
use Rattle.rcell_pipe_request.proofs.head.read_given_number_of_labels.Given as goal

abbrev pub invariant-loop-i : goal.invariant-loop-i
invariant-loop-i g l =
    StepsLeadOn next_label_reading [] l.count l.fn.feed l.i (labels_as_values l.labels.items) l.feed
    × All IsGoodLabel l.labels.items
