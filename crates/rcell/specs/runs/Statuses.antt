-- The exit statuses of a run (profile).
use Rattle.std.specs.Prelude.{ℕ, Option, Some, None}
use Rattle.cell_ascii_meaning.specs.declared.grid_fault.GridKind.{GridKind}
use Rattle.cell_ascii_meaning.specs.declared.grid_fault.GridKind.TheVariants as grid_kinds
use Rattle.rcell_script.specs.declared.script_fault.ScriptKind.{ScriptKind}
use Rattle.rcell_script.specs.declared.script_fault.ScriptKind.TheVariants as script_kinds
use Rattle.rcell.specs.declared.run_fault.RunFault.{RunFault}
use Rattle.rcell.specs.declared.run_fault.RunFault.TheVariants.{GridTwice, GridRegion, Grid, ScriptRead, ScriptSize, Script, Memory, Write}

-- 4 if a read failed, 3 if memory ran out, 1 if the text is invalid
abbrev pub exit_status_of_grid_kind : GridKind → ℕ
exit_status_of_grid_kind grid_kinds.Read = 4
exit_status_of_grid_kind grid_kinds.Memory = 3
exit_status_of_grid_kind kind = 1

-- 3 if memory ran out, 1 if the script is invalid
abbrev pub exit_status_of_script_kind : ScriptKind → ℕ
exit_status_of_script_kind script_kinds.Memory = 3
exit_status_of_script_kind kind = 1

-- the exit status for an error
abbrev pub exit_status_of_run_fault : RunFault → ℕ
exit_status_of_run_fault (GridTwice grid) = 1
exit_status_of_run_fault (GridRegion grid) = 1
exit_status_of_run_fault (Grid grid fault) = exit_status_of_grid_kind fault.kind
exit_status_of_run_fault ScriptRead = 4
exit_status_of_run_fault ScriptSize = 1
exit_status_of_run_fault (Script fault) = exit_status_of_script_kind fault.kind
exit_status_of_run_fault (Memory line) = 3
exit_status_of_run_fault Write = 4

-- the exit status of a run
abbrev pub exit_status_of_run : Option RunFault → ℕ
exit_status_of_run None = 0
exit_status_of_run (Some fault) = exit_status_of_run_fault fault
