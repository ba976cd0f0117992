-- How far the source of a script has been read.
use Rattle.std.specs.Prelude.{Result, Ok, Err}
use Rattle.cell_core_devices.specs.declared.source.Asked.{Asked}
use Rattle.cell_core_devices.specs.declared.source.Asked.TheVariants.{Going, Ended, Failed}
use Rattle.rcell.specs.declared.run_fault.RunFault.{RunFault}
use Rattle.rcell.specs.declared.run_fault.RunFault.TheVariants.{ScriptRead}

-- the source was read to its end, to a read error, or to neither
abbrev pub read_state_after_reading : {X : Type 0} → Result X RunFault → Asked
read_state_after_reading (Ok text) = Ended
read_state_after_reading (Err ScriptRead) = Failed
read_state_after_reading (Err fault) = Going
