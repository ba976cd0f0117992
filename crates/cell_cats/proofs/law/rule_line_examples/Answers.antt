use Rattle.std.proofs.Common.{refl}
use Rattle.cell_cats.proofs.law.rule_line_examples.Goals as goal

pub returns : goal.returns
returns c = record {
  low = refl;
  turned = refl;
  commas = refl;
  half = refl;
  word = refl;
  starred = refl;
  shape_first = refl;
  no_output = refl;
  large = refl;
  comment = refl;
  ended = refl;
  not_ended = refl;
}
