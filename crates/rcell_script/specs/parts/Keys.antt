-- Which keys are given.
use Rattle.std.specs.Prelude.{Bool, is_some}
use Rattle.rcell_script.specs.OptionReading.{GivenOptions}
use Rattle.rcell_script.specs.declared.options.OptionKey.{OptionKey}
use Rattle.rcell_script.specs.declared.options.OptionKey.TheVariants.{Input, Inputs, Output, Separator, NullText, TableNullText, After}

-- the key has been given a value
abbrev pub is_given : GivenOptions → OptionKey → Bool
is_given given Input = is_some given.input
is_given given Inputs = is_some given.inputs
is_given given Output = is_some given.output
is_given given Separator = is_some given.separator
is_given given NullText = is_some given.null_text
is_given given TableNullText = is_some given.table_null_text
is_given given After = is_some given.after
