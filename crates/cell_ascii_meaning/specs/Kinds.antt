-- Kinds of errors in grid texts.
use Rattle.std.specs.Prelude.{⊤, Bool, true, false, Result, Ok, Err}
use Rattle.cell_ascii_meaning.specs.declared.grid_fault.GridFault.{GridFault}
use Rattle.cell_ascii_meaning.specs.declared.grid_fault.GridKind.{GridKind}
use Rattle.cell_ascii_meaning.specs.declared.grid_fault.GridKind.TheVariants.{Read, Memory, Failed}

-- the error is in the text or its source, not lack of memory or an earlier failure of the reader
abbrev pub IsFaultOfText : GridKind → Type 0
IsFaultOfText Memory = ⊥
IsFaultOfText Failed = ⊥
IsFaultOfText _ = ⊤

-- the error means that the source returned an `Err`
abbrev pub is_failed_read : GridKind → Bool
is_failed_read Read = true
is_failed_read _ = false

-- the result reports that the source returned an `Err`
abbrev pub reports_failed_read : {X : Type 0} → Result X GridFault → Bool
reports_failed_read (Ok x) = false
reports_failed_read (Err f) = is_failed_read f.kind
