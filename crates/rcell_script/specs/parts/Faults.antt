-- Converts errors of names to errors of options.
use Rattle.cell_core_values.specs.declared.name.NameFault.{NameFault}
use Rattle.cell_core_values.specs.declared.name.NameFault.TheVariants as name
use Rattle.rcell_script.specs.declared.option_fault.OptionFault.{OptionFault}
use Rattle.rcell_script.specs.declared.option_fault.OptionFault.TheVariants.{BadName, Memory}

-- the option error for an error of a name
abbrev pub option_fault_of_name_fault : NameFault → OptionFault
option_fault_of_name_fault name.BadName = BadName
option_fault_of_name_fault name.Memory = Memory
