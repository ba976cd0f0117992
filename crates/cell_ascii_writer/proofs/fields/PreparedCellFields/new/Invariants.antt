use Rattle.std.proofs.Common.{◌≡◌, ℕ, ◌<◌, length, get_or, decimal}
use Rattle.cell_ascii_writer.specs.Fields.{IsFieldOfSpaceAndText}
use Rattle.cell_ascii_writer.specs.declared.fields.Field.{Field}
use Rattle.cell_ascii_writer.proofs.fields.PreparedCellFields.new.Given as goal

abbrev pub invariant-loop-i : goal.invariant-loop-i
invariant-loop-i l = record {
  room : length l.small ≡ 256;
  made : (k : ℕ) (d : Field) → k < l.i → IsFieldOfSpaceAndText (decimal k) (get_or l.small k d);
}
