use Rattle.std.proofs.Common.{◌≡◌, [], length}
use Rattle.rcell_pipe_request.specs.Requests.{next_row_reading}
use Rattle.rcell_pipe_request.proofs.StepLemmas.{StepsLeadOn}
use Rattle.rcell_pipe_request.proofs.named_map.read_all_rows.Given as goal

abbrev pub invariant-loop-i : goal.invariant-loop-i
invariant-loop-i g l =
    StepsLeadOn (next_row_reading l.maps l.format (length l.fn.cells)) [] l.rows l.fn.feed l.i l.builder.rows l.feed
    × (length l.builder.rows ≡ l.i) × (l.builder.region ≡ l.fn.builder.region) × (length l.cells ≡ length l.fn.cells)
    × (length l.bytes ≡ length l.fn.bytes) × (length l.mask ≡ length l.fn.mask)
