use Rattle.std.proofs.Common.{refl, arith}
use Rattle.cell_ascii_writer.proofs.DigitLemmas.{digits-text}
use Rattle.cell_ascii_writer.proofs.fields.ThreeDigitTable.digits_of.Goals as goal

pub overflow_sub-result : goal.overflow_sub-result
overflow_sub-result c =
    omega (arith, (digits-text c.args.number c.six_digits-digits.result _ c.requires.some c.requires.few c.six_digits-digits.ensures refl).most)

pub returns-clause-small : goal.returns-clause-small
returns-clause-small c =
    (digits-text c.args.number c.six_digits-digits.result _ c.requires.some c.requires.few c.six_digits-digits.ensures refl).small

pub returns-clause-text : goal.returns-clause-text
returns-clause-text c =
    (digits-text c.args.number c.six_digits-digits.result _ c.requires.some c.requires.few c.six_digits-digits.ensures refl).text
