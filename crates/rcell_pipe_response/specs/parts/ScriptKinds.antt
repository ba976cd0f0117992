-- Why a script could not be read.
use Rattle.std.specs.Prelude.{Bool, true, false}
use Rattle.rcell_script.specs.declared.script_fault.ScriptKind.{ScriptKind}
use Rattle.rcell_script.specs.declared.script_fault.ScriptKind.TheVariants.{Memory}

-- memory ran out
abbrev pub is_memory_error : ScriptKind → Bool
is_memory_error Memory = true
is_memory_error kind = false
