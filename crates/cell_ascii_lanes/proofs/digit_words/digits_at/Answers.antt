use Rattle.cell_ascii_lanes.proofs.DigitLemmas.{digits_ahead}
use Rattle.cell_ascii_lanes.proofs.digit_words.digits_at.Goals as goal

pub returns : goal.returns
returns c = digits_ahead c.args.bytes.now c.requires (λ k. (c.type_inv.bytes k).fits)
