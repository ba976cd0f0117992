use Rattle.cell_ascii_lanes.proofs.DigitLemmas.{moved_bytes}
use Rattle.cell_ascii_lanes.proofs.digit_words.word_key.Goals as goal

pub returns : goal.returns
returns c =
    moved_bytes c.args.size c.args.bytes.now c.requires.some c.requires.few c.requires.buffered
    (λ k. (c.type_inv.bytes k).fits)
