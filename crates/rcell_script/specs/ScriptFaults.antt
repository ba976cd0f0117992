-- Converts errors of options, rules and combinations to errors of a script.
use Rattle.std.specs.Prelude.{◌≢◌, Result, Ok, Err}
use Rattle.cell_cats.specs.declared.rules.RuleFault.{RuleFault}
use Rattle.cell_cats.specs.declared.rules.RuleFault.TheVariants as rule
use Rattle.cell_stats_combinations.specs.declared.combination_text.ComboFault.{ComboFault}
use Rattle.cell_stats_combinations.specs.declared.combination_text.ComboFault.TheVariants as combo
use Rattle.rcell_script.specs.declared.option_fault.OptionFault.{OptionFault}
use Rattle.rcell_script.specs.declared.option_fault.OptionFault.TheVariants as option
use Rattle.rcell_script.specs.declared.script_fault.ScriptKind.{ScriptKind}
use Rattle.rcell_script.specs.declared.script_fault.ScriptKind.TheVariants.{BadOption, MissingOption, UnknownMap, MapExists, BadName, Rule, Combo, Memory}
use Rattle.rcell_script.specs.declared.script_fault.ScriptFault.{ScriptFault}

-- the script error for an error of options
abbrev pub script_kind_of_option_fault : OptionFault → ScriptKind
script_kind_of_option_fault option.BadOption = BadOption
script_kind_of_option_fault option.MissingOption = MissingOption
script_kind_of_option_fault option.UnknownMap = UnknownMap
script_kind_of_option_fault option.MapExists = MapExists
script_kind_of_option_fault option.BadName = BadName
script_kind_of_option_fault option.Memory = Memory

-- converts an error of options to an error of a script
abbrev pub option_result_as_script_result : {A : Type 0} → Result A OptionFault → Result A ScriptKind
option_result_as_script_result (Ok x) = Ok x
option_result_as_script_result (Err fault) = Err (script_kind_of_option_fault fault)

-- the script error for an error of a combination
abbrev pub script_kind_of_combo_fault : ComboFault → ScriptKind
script_kind_of_combo_fault combo.Memory = Memory
script_kind_of_combo_fault fault = Combo fault

-- the script error for an error of a rule
abbrev pub script_kind_of_rule_fault : RuleFault → ScriptKind
script_kind_of_rule_fault rule.Memory = Memory
script_kind_of_rule_fault fault = Rule fault

-- the result is a reading, unless memory ran out
abbrev pub HoldsUnlessOutOfMemory : {A : Type 0} → (Result A ScriptKind → Type 0) → Result A ScriptKind → Type 0
HoldsUnlessOutOfMemory IsReading (Ok x) = IsReading (Ok x)
HoldsUnlessOutOfMemory IsReading (Err kind) = kind ≢ Memory → IsReading (Err kind)

-- `HoldsUnlessOutOfMemory`, for errors with a line
abbrev pub HoldsUnlessOutOfMemoryAtLine : {A : Type 0} → (Result A ScriptFault → Type 0) → Result A ScriptFault → Type 0
HoldsUnlessOutOfMemoryAtLine IsReading (Ok x) = IsReading (Ok x)
HoldsUnlessOutOfMemoryAtLine IsReading (Err fault) = fault.kind ≢ Memory → IsReading (Err fault)
