-- The text of a script, whose length is limited (profile).
use Rattle.std.specs.Prelude.{ℕ, nat_lt, List, length, Result, Ok, Err, if◌then◌else◌}
use Rattle.cell_core_devices.specs.Device.{ComingBytes}
use Rattle.rcell.specs.declared.run_fault.RunFault.{RunFault}
use Rattle.rcell.specs.declared.run_fault.RunFault.TheVariants.{ScriptRead, ScriptSize}

-- the bytes of a script: at most 1048576, from a reader that does not fail
abbrev pub script_text_or_fault : ComingBytes → Result (List ℕ) RunFault
script_text_or_fault c = if nat_lt 1048576 (length c.bytes) then Err ScriptSize else (if c.fails then Err ScriptRead else Ok c.bytes)
