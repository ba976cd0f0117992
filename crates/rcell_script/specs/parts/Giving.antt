-- Compares the result of a reader with the specified reading.
use Rattle.std.specs.Prelude.{Result}
use Rattle.cell_core_values.specs.Answers.{EqualsUnlessOutOfMemory}
use Rattle.rcell_script.specs.declared.script_fault.ScriptKind.{ScriptKind}
use Rattle.rcell_script.specs.declared.script_fault.ScriptKind.TheVariants.{Memory}

-- the result is the specified reading, unless memory ran out
abbrev pub IsScriptReadingUnlessMemory : {A : Type 0} → Result A ScriptKind → Result A ScriptKind → Type 0
IsScriptReadingUnlessMemory answer reading = EqualsUnlessOutOfMemory Memory (λ x. x) answer reading
