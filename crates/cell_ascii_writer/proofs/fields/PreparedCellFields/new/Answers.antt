use Rattle.std.proofs.Common.{ℕ, ◌<◌, refl, arith}
use Rattle.cell_ascii_writer.specs.declared.fields.Field.{Field}
use Rattle.cell_ascii_writer.proofs.FieldLemmas.{first-made, made-all, made-but_null}
use Rattle.cell_ascii_writer.proofs.fields.PreparedCellFields.new.Goals.{then-null_text-le-MOST_FIELD_TEXT_BYTES}
use Rattle.cell_ascii_writer.proofs.fields.PreparedCellFields.new.Goals.{else-null_text-le-MOST_FIELD_TEXT_BYTES}
use Rattle.cell_ascii_writer.proofs.fields.PreparedCellFields.new.Goals as goal

pub loop-i-init : goal.loop-i-init
loop-i-init c = record {
  room = refl;
  made = first-made 256 c.field_of_short_text-small.result c.field_of_short_text-small.ensures (omega arith);
}

pub invariant_of-result : goal.invariant_of-result
invariant_of-result c =
    let null = c.args.null_text.now in
    let now = c.loop-i.invariant in
    let made = λ (k : ℕ) (d : Field) (below : k < 255). now.made k d (omega (arith, c.loop-i-test.false)) in
    elim c.if-null_text-le-MOST_FIELD_TEXT_BYTES.branch [
      | then-null_text-le-MOST_FIELD_TEXT_BYTES w ↦
          rw w.small-is (made-all null c.loop-i.small c.requires made w.field_of_short_text.result now.room
          w.field_of_short_text.ensures)
      | else-null_text-le-MOST_FIELD_TEXT_BYTES w ↦
          rw w.small-is (made-but_null null c.loop-i.small c.requires made
          w.if-null_text-le-MOST_FIELD_TEXT_BYTES.false)
    ]
