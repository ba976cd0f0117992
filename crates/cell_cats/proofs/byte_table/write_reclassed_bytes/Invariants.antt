use Rattle.std.proofs.Common.{◌≡◌, List, take}
use Rattle.cell_core_values.specs.SmallCells.{cells_of_bytes}
use Rattle.cell_cats.specs.Rule.{RuleValue}
use Rattle.cell_cats.specs.Reclass.{reclassed_row}
use Rattle.cell_cats.specs.parts.ByteTables.{IsByteReclassTable}
use Rattle.cell_cats.proofs.byte_table.write_reclassed_bytes.Given as goal

abbrev pub invariant-loop-i : goal.invariant-loop-i
invariant-loop-i l =
    (rules : List RuleValue) → IsByteReclassTable rules l.table
    → cells_of_bytes (take l.i l.row) ≡ reclassed_row rules (cells_of_bytes (take l.i l.bytes))
