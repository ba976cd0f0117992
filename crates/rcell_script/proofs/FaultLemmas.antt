-- Errors of options, reported as errors of a script.
use Rattle.std.proofs.Common.{◌≡◌, ◌≢◌, Result, Err, ap, sym, ◌∙◌}
use Rattle.rcell_script.specs.declared.option_fault.OptionFault.{OptionFault}
use Rattle.rcell_script.specs.declared.option_fault.OptionFault.TheVariants as option
use Rattle.rcell_script.specs.ScriptFaults.{script_kind_of_option_fault, option_result_as_script_result}
use Rattle.rcell_script.specs.declared.script_fault.ScriptKind.{ScriptKind}
use Rattle.rcell_script.specs.declared.script_fault.ScriptKind.TheVariants as script

-- options that fail for a reason other than memory give an error of the script
pub reported : {A : Type 0} (r : Result A OptionFault) (fault : OptionFault) (kind : ScriptKind) → kind ≡ script_kind_of_option_fault fault → kind ≢ script.Memory
    → (fault ≢ option.Memory → r ≡ Err fault) → option_result_as_script_result r ≡ Err kind
reported r fault kind same other fails = rw (fails (λ memory. other (same ∙ ap script_kind_of_option_fault memory)))
    (ap Err (sym same))
