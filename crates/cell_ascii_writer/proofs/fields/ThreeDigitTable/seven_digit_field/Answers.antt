use Rattle.std.proofs.Common.{ℕ, List, ◌+◌, ◌*◌, ◌/◌, ◌<◌, ◌∷◌, ◌∙◌, ap, arith}
use Rattle.cell_ascii_writer.proofs.ByteLemmas.{low_bytes-more}
use Rattle.cell_ascii_writer.proofs.DigitLemmas.{seven-digits}
use Rattle.cell_ascii_writer.proofs.fields.ThreeDigitTable.seven_digit_field.Goals as goal

pub returns : goal.returns
returns c =
    let n = c.args.number in
    let digits = c.six_digits-digits.result in
    let space : 32 < 256 = omega arith in
    record {
      few = omega arith;
      bytes = low_bytes-more ((digits + 52983525027888) * 256 + (n / 1000000 + 48)) 7 32 space
          ∙ ap (λ (l : List ℕ). 32 ∷ l) (seven-digits n digits c.requires.many c.requires.few c.six_digits-digits.ensures);
    }
