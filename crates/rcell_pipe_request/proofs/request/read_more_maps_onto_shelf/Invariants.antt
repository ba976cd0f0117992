use Rattle.std.proofs.Common.{◌≡◌, ◌+◌, length}
use Rattle.rcell_pipe_request.specs.Requests.{next_map_reading}
use Rattle.rcell_pipe_request.proofs.StepLemmas.{StepsLeadOn}
use Rattle.rcell_pipe_request.proofs.request.read_more_maps_onto_shelf.Given as goal

abbrev pub invariant-loop-i : goal.invariant-loop-i
invariant-loop-i g l = StepsLeadOn next_map_reading l.fn.shelf l.count l.fn.feed l.i l.shelf l.feed
    × (length l.shelf.names ≡ length l.fn.shelf.names + l.i) × (l.shelf.region ≡ l.fn.shelf.region)
