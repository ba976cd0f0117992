-- Converts errors of expressions to errors of a script.
use Rattle.std.specs.Prelude.{◌≡◌, ◌≢◌, ◌⊎◌}
use Rattle.cell_calc_grammar.specs.declared.calc_fault.CalcFault.{CalcFault}
use Rattle.cell_calc_grammar.specs.declared.calc_fault.CalcKind.TheVariants as calc
use Rattle.rcell_script.specs.declared.script_fault.ScriptKind.{ScriptKind}
use Rattle.rcell_script.specs.declared.script_fault.ScriptKind.TheVariants.{Calc, Memory}

-- the script error for an error of an expression
abbrev pub IsScriptKindOfCalcFault : CalcFault → ScriptKind → Type 0
IsScriptKindOfCalcFault fault kind = ((fault.kind ≡ calc.Memory) × (kind ≡ Memory)) ⊎ ((fault.kind ≢ calc.Memory) × (kind ≡ Calc fault))
