use Rattle.std.proofs.Common.{refl}
use Rattle.cell_core_devices.proofs.SupposedLemmas.{keeps_to}
use Rattle.cell_core_devices.proofs.source.ReadSourceSource.TheImpl.Goals as goal

pub take-tells : goal.take-tells
take-tells g c = record {
  count = c.ensures.count;
  bytes = refl;
  supposed =
      λ h. keeps_to h c.args.self.now.0.1 c.new.self.now.0.1 c.args.self.now.1 c.new.self.now.1 c.result c.new.buf.now
      c.ensures.asked c.ensures.count c.ensures.gave c.ensures.kept;
  asked = c.ensures.asked;
}
