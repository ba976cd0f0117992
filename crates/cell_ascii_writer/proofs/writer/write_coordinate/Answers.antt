use Rattle.std.proofs.Common.{◌≡◌, to_z, of_z, w64}
use Rattle.std.proofs.lemmas.Int.{to_z-of_z}
use Rattle.cell_core_devices.proofs.BlockLemmas.{appends_then}
use Rattle.cell_ascii_writer.proofs.WriterLemmas.{coordinate_text-negative, coordinate_text-positive}
use Rattle.cell_ascii_writer.proofs.writer.write_coordinate.Goals.{then-units-lt0, else-units-lt0}
use Rattle.cell_ascii_writer.proofs.writer.write_coordinate.Goals as goal

pub returns : goal.returns
returns g c =
    let same : to_z w64 (of_z w64 c.args.units) ≡ c.args.units = to_z-of_z w64 c.args.units c.ranges.units in
    let units = rw (c.unsigned_abs.ensures.value, same) at c.write_unsigned_coordinate.ensures in
    elim c.if-units-lt0.branch [
      | then-units-lt0 w ↦
          rw (coordinate_text-negative c.args.units (rw same at w.if-units-lt0.true)) (appends_then w.push.ensures (rw (w.out-is, w.block-is) at units))
      | else-units-lt0 w ↦ rw (coordinate_text-positive c.args.units (rw same at w.if-units-lt0.false)) (rw (w.out-is, w.block-is) at units)
    ]
