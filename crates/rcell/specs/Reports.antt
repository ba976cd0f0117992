-- Where a run's error is reported, and its text (profile).
use Rattle.std.specs.Prelude.{ℕ, List, [], codes, slice_get, unwrap_or}
use Rattle.rcell.specs.declared.run_fault.RunFault.{RunFault}
use Rattle.rcell.specs.declared.run_fault.RunFault.TheVariants.{GridTwice, GridRegion, Grid, ScriptRead, ScriptSize, Script, Memory, Write}
use Rattle.rcell.specs.declared.report.FaultReportText.{FaultReportText}
use Rattle.rcell.specs.declared.report.FaultReportText.TheVariants as texts

-- the name of the grid with this index, or an empty name if there is none
abbrev pub grid_name_at_place : List (List ℕ) → ℕ → List ℕ
grid_name_at_place names grid = unwrap_or (slice_get names grid) []

-- the source of an error: a grid's name, `script` or `output`
abbrev pub source_name_of_fault : List (List ℕ) → RunFault → List ℕ
source_name_of_fault names (GridTwice grid) = grid_name_at_place names grid
source_name_of_fault names (GridRegion grid) = grid_name_at_place names grid
source_name_of_fault names (Grid grid fault) = grid_name_at_place names grid
source_name_of_fault names ScriptRead = codes "script"
source_name_of_fault names ScriptSize = codes "script"
source_name_of_fault names (Script fault) = codes "script"
source_name_of_fault names (Memory line) = codes "script"
source_name_of_fault names Write = codes "output"

-- the line of an error, or 0 if it has none
abbrev pub fault_line_number : RunFault → ℕ
fault_line_number (GridTwice grid) = 0
fault_line_number (GridRegion grid) = 0
fault_line_number (Grid grid fault) = fault.line
fault_line_number ScriptRead = 0
fault_line_number ScriptSize = 0
fault_line_number (Script fault) = fault.line
fault_line_number (Memory line) = line
fault_line_number Write = 0

-- the text of an error that occurred after `written` bytes
abbrev pub text_of_run_fault : ℕ → RunFault → FaultReportText
text_of_run_fault written (GridTwice grid) = texts.GridTwice
text_of_run_fault written (GridRegion grid) = texts.GridRegion
text_of_run_fault written (Grid grid fault) = texts.Grid fault.kind
text_of_run_fault written ScriptRead = texts.ScriptRead
text_of_run_fault written ScriptSize = texts.ScriptSize
text_of_run_fault written (Script fault) = texts.Script fault.kind
text_of_run_fault written (Memory line) = texts.Memory
text_of_run_fault written Write = texts.Write written

-- the parts of the line for an error that occurred after `written` bytes: source, line and text
abbrev pub fault_report_line_parts : List (List ℕ) → ℕ → RunFault → List ℕ × (ℕ × FaultReportText)
fault_report_line_parts names written fault = (
  source_name_of_fault names fault,
  (fault_line_number fault, text_of_run_fault written fault),
)
