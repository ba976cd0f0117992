use Rattle.std.proofs.Common.{◌≡◌, ◌+◌, length, arith}
use Rattle.cell_ascii_writer.proofs.ByteLemmas.{loaded}
use Rattle.cell_ascii_writer.proofs.fields.field_of_short_text.Goals as goal

pub returns : goal.returns
returns c =
    let text = c.args.text.now in
    let put = c.put_space_and_text-size.ensures in
    let size : c.put_space_and_text-size.result ≡ length text + 1 = omega (arith, put.end) in
    record {
      few = omega (arith, size, c.requires);
      bytes = rw size (loaded c.put_space_and_text-size.new.line text
          (omega (arith, c.put_space_and_text-size.auto.line)) c.requires (λ k. (c.type_inv.text k).fits)
          (rw size at put.text));
    }
