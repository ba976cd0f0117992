use Rattle.std.proofs.Common.{◌∙◌, ap}
use Rattle.cell_core.specs.Shelf.{ShelfValue}
use Rattle.rcell_pipe_response.proofs.ExecutionLemmas.{inner_names}
use Rattle.rcell_pipe_response.proofs.frame_execution.maps_without_halo.Goals as goal

pub returns-clause-names : goal.returns-clause-names
returns-clause-names c = ap (λ (s : ShelfValue). s.names) c.inner.ensures ∙ inner_names c.args.shelves.now
