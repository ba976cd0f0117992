use Rattle.std.proofs.Common.{ap, ◌∙◌}
use Rattle.std.proofs.lemmas.List.Elements.{All-set}
use Rattle.cell_ascii_meaning.specs.CellTexts.{cell_of_word}
use Rattle.cell_ascii.specs.TableWords.{WordEntryIsFreeOrHoldsCell}
use Rattle.cell_ascii.proofs.word_table.store_word_cell_in_table.Goals as goal

pub returns : goal.returns
returns c =
    let h = c.args.header.now in
    All-set (WordEntryIsFreeOrHoldsCell h) c.args.entries.now c.place_of_word_in_table.result (record { key = c.kept_key-key.result; size = c.args.size; cell = c.args.cell })
    (λ some. ap (cell_of_word h) c.kept_key-key.ensures ∙ c.requires.cell) c.requires.known
