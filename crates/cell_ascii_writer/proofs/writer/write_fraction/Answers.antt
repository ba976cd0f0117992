use Rattle.cell_core_devices.proofs.BlockLemmas.{appends_then}
use Rattle.cell_ascii_writer.proofs.WriterLemmas.{fraction_text-some}
use Rattle.cell_ascii_writer.proofs.writer.write_fraction.Goals as goal

pub returns : goal.returns
returns g c =
    rw (fraction_text-some c.args.part c.if-part-eq0.false, ← c.eight_digits_of_fraction.ensures.value, ← c.digits_without_trailing_zeros.ensures.value)
    (appends_then c.push.ensures c.push-2.ensures)
