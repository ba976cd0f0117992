use Rattle.std.proofs.Common.{◌≡◌, take}
use Rattle.rcell_pipe_request.specs.Heads.{labels_as_values}
use Rattle.rcell_pipe_request.specs.Requests.{label_map_with_added_labels}
use Rattle.rcell_pipe_request.proofs.named_map.set_labels.Given as goal

abbrev pub invariant-loop-label : goal.invariant-loop-label
invariant-loop-label l = l.map ≡ record l.fn.map { labels = label_map_with_added_labels l.fn.map.labels (labels_as_values (take l.label-index l.labels)) }
