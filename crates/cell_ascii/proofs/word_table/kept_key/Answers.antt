use Rattle.cell_ascii.proofs.BitLemmas.{key_kept}
use Rattle.cell_ascii.proofs.word_table.kept_key.Goals as goal

pub returns : goal.returns
returns c =
    key_kept c.args.bytes.now c.args.size c.word_key.result c.requires.some c.requires.few c.requires.buffered
    (λ k. (c.type_inv.bytes k).fits) c.word_key.ensures
