-- Why the reading of a text grid stops.
use Rattle.std.specs.Prelude.{ℕ}
use Rattle.cell_ascii_meaning.specs.declared.grid_fault.GridFault.{GridFault}
use Rattle.cell_ascii_meaning.specs.declared.grid_fault.GridKind.{GridKind}
use Rattle.cell_ascii_meaning.specs.declared.grid_fault.GridKind.TheVariants.{Memory}
use Rattle.rcell_pipe_request.specs.declared.error.ErrorKind.TheVariants as kinds
use Rattle.rcell_pipe_request.specs.declared.error.RequestStop.{RequestStop}
use Rattle.rcell_pipe_request.specs.declared.error.RequestStop.TheVariants as request_stops

-- memory ran out, or the error, with its line in the text
abbrev pub request_stop_of_grid_kind : ℕ → ℕ → GridKind → RequestStop
request_stop_of_grid_kind maps line Memory = request_stops.Memory
request_stop_of_grid_kind maps line kind =
    request_stops.Error (record { kind = kinds.Grid kind; maps = maps; row = line })

abbrev pub request_stop_of_grid_fault : ℕ → GridFault → RequestStop
request_stop_of_grid_fault maps fault = request_stop_of_grid_kind maps fault.line fault.kind
